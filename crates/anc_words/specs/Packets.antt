-- Believed: the program's answer stands on these definitions.
-- Ancillary packets (SMPTE ST 291-1): the ancillary data flag 000 3FF 3FF, DID, SDID, count, the user words
-- and the checksum word. Captions are those with DID 61 and SDID 01 (SMPTE ST 334-1); their user words are
-- 8-bit words, and another packet's may be any words of ten bits, also the ones that the standard
-- reserves.
use Rattle.std.specs.Prelude.{◌≡◌, ℕ, ◌%◌, ◌<◌, List, [], ◌∷◌, ◌++◌, map, length}
use Rattle.std.specs.List.{All}
use Rattle.anc_words.specs.EightBitWords.{IsEightBit}
use Rattle.anc_words.specs.Checksums.{IsChecksum}

-- what a packet says: its identifiers, a byte each, and its user words
pub record AncillaryPacket : Type 0 where
  pub did : ℕ
  pub sdid : ℕ
  pub user : List ℕ

-- the packet is one of captions
abbrev pub IsCaption : AncillaryPacket → Type 0
IsCaption packet = (packet.did ≡ 0x61) × (packet.sdid ≡ 0x01)

-- the word may be a user word of the packet
pub record IsUserWord (packet : AncillaryPacket) (word : ℕ) : Type 0 where
  pub ten_bits : word < 1024
  pub caption : IsCaption packet → IsEightBit (word % 256) word

-- the words are the packet, from the flag to the checksum word: DID, SDID and count are 8-bit words, and the
-- checksum goes over them and the user words
pub record IsPacket (packet : AncillaryPacket) (words : List ℕ) : Type 0 where
  pub did : ℕ
  pub sdid : ℕ
  pub count : ℕ
  pub checksum : ℕ
  pub spelled : words ≡ 0x000 ∷ 0x3FF ∷ 0x3FF ∷ did ∷ sdid ∷ count ∷ (packet.user ++ checksum ∷ [])
  pub has_did : IsEightBit packet.did did
  pub has_sdid : IsEightBit packet.sdid sdid
  pub has_count : IsEightBit (length packet.user) count
  pub has_user : All (IsUserWord packet) packet.user
  pub has_checksum : IsChecksum (did ∷ sdid ∷ count ∷ packet.user) checksum

-- the bytes in bits 7 to 0 of the user words
abbrev pub user_bytes : AncillaryPacket → List ℕ
user_bytes packet = map (λ word. word % 256) packet.user
