-- The sum of bytes, one after another.
use Rattle.std.proofs.Common.{◌≡◌, ℕ, ◌+◌, ◌%◌, List, [], ◌∷◌, ◌++◌, length, refl, sym, ◌∙◌, arith}
use Rattle.mcc_files.specs.Payloads.{Payload, checksum_byte}
use Rattle.mcc_files.proofs.PacketLemmas.{checksum_is_sum, sum_onto}

pub sum_more : (start : ℕ) (bytes : List ℕ) (byte : ℕ) → sum_onto start (bytes ++ byte ∷ []) ≡ sum_onto start bytes + byte
sum_more start [] byte = refl
sum_more start (first ∷ bytes) byte = sum_more (start + first) bytes byte

pub sum_same : (start other : ℕ) (bytes : List ℕ) → start % 256 ≡ other % 256 → sum_onto start bytes % 256 ≡ sum_onto other bytes % 256
sum_same start other [] same = same
sum_same start other (byte ∷ bytes) same = sum_same (start + byte) (other + byte) bytes (omega arith)

-- the checksum byte is the sum of all bytes before it, modulo 256
pub checksum_so : (did sdid : ℕ) (user : List ℕ) (total : ℕ) → total ≡ sum_onto (did + sdid + length user) user % 256
    → total ≡ checksum_byte (record { did = did; sdid = sdid; user = user })
checksum_so did sdid user total is =
    let payload : Payload = record { did = did; sdid = sdid; user = user } in
    is ∙ (sum_same (did + sdid + length user) (0 + did + sdid + length user) user (omega arith) ∙ sym (checksum_is_sum payload))
