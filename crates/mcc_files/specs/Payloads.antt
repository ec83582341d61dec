-- Believed in part: the program's answer stands on some of these definitions.
-- Which text is the payload of which ancillary packet (SMPTE ST 291-1): items that stand for DID, SDID, a count, as many user bytes, and
-- the low eight bits of the checksum word.
use Rattle.std.specs.Prelude.{◌≡◌, ℕ, ◌%◌, List, [], ◌∷◌, ◌++◌, length}
use Rattle.std.specs.List.{concat}
use Rattle.anc_words.specs.Writing.{checksum_word, summed_words}
use Rattle.mcc_files.specs.Items.{AreItems}

-- what a payload says: the identifiers and the user bytes of a packet, each an 8-bit word there
pub record Payload : Type 0 where
  pub did : ℕ
  pub sdid : ℕ
  pub user : List ℕ

-- the low eight bits of its checksum word
abbrev pub checksum_byte : Payload → ℕ
checksum_byte payload = checksum_word (summed_words payload.did payload.sdid payload.user) % 256

-- its bytes, with this checksum byte
abbrev pub bytes_with : Payload → ℕ → List ℕ
bytes_with payload checksum = payload.did ∷ payload.sdid ∷ length payload.user ∷ (payload.user ++ checksum ∷ [])

-- its bytes
abbrev pub payload_bytes : Payload → List ℕ
payload_bytes payload = bytes_with payload (checksum_byte payload)

-- the text is the payload
pub record IsPayload (payload : Payload) (text : List ℕ) : Type 0 where
  pub items : List (List ℕ)
  pub are : AreItems items text
  pub stand_for : concat items ≡ payload_bytes payload

-- the text is a payload in form, whatever its checksum byte
pub record IsPayloadForm (text : List ℕ) : Type 0 where
  pub items : List (List ℕ)
  pub payload : Payload
  pub checksum : ℕ
  pub are : AreItems items text
  pub stand_for : concat items ≡ bytes_with payload checksum
