-- Between crates: the program's answer stands on none of these definitions.
-- How a reader of payloads counts the bytes for which the items before stand.
use Rattle.std.specs.Prelude.{◌≡◌, ℕ, ◌%◌, true, List, [], ◌∷◌, ◌++◌, length, Some, None, Result, Ok, Err}
use Rattle.std.specs.List.{sum}
use Rattle.cc_base.specs.declared.why.Why.{Why}
use Rattle.mcc_files.specs.Payloads.{Payload, payload_bytes}
use Rattle.mcc_files.specs.PayloadReading.{why_of_byte}
use Rattle.mcc_files.specs.declared.payload_reader.Counted.{Counted}

-- the count, once it has come
abbrev pub count_of : List ℕ → ℕ
count_of (did ∷ sdid ∷ count ∷ rest) = count
count_of _ = 0

-- they are counted so
pub record AreCounted (bytes : List ℕ) (counted : Counted) : Type 0 where
  pub long : counted.len ≡ length bytes
  pub count : counted.count ≡ count_of bytes
  pub sum : counted.sum ≡ sum bytes % 256

-- a byte more was taken, or it offends and nothing changed
abbrev pub TakesByte : List ℕ → ℕ → Counted → Counted → Result (Unit {0}) Why → Type 0
TakesByte bytes byte old new (Ok _) = (why_of_byte true bytes byte ≡ None) × AreCounted (bytes ++ byte ∷ []) new
TakesByte bytes byte old new (Err reason) = (why_of_byte true bytes byte ≡ Some reason) × (new ≡ old)

-- the bytes are a packet with the right checksum byte
abbrev pub IsPacket : List ℕ → Type 0
IsPacket bytes = (payload : Payload) × (bytes ≡ payload_bytes payload)
