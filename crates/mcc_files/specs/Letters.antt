-- Believed: the program's answer stands on these definitions.
-- The letters of MCC files, each of which stands for bytes that are frequent in ancillary packets of captions: triplets that don't
-- count, null pairs of both fields, the identifier of a distribution packet, DID and SDID of captions, and zeros.
use Rattle.std.specs.Prelude.{ℕ, zero, suc, ◌-◌, ◌==◌, ◌&&◌, if◌then◌else◌, nat_le, List, [], ◌∷◌, Option, Some, None}

-- this many times FA 00 00
abbrev pub fillers : ℕ → List ℕ
fillers zero = []
fillers (suc count) = 0xFA ∷ 0x00 ∷ 0x00 ∷ fillers count

-- the bytes for which a letter stands: G to O for 1 to 9 times FA 00 00, P, Q and R for FB, FC and FD 80 80, S for 96 69, T for 61 01,
-- U for E1 00 00 00, and Z for 00; no other byte is a letter
abbrev pub letter_bytes : ℕ → Option (List ℕ)
letter_bytes letter =
    if nat_le 71 letter && nat_le letter 79 then Some (fillers (letter - 70))
    else if letter == 80 then Some (0xFB ∷ 0x80 ∷ 0x80 ∷ [])
    else if letter == 81 then Some (0xFC ∷ 0x80 ∷ 0x80 ∷ [])
    else if letter == 82 then Some (0xFD ∷ 0x80 ∷ 0x80 ∷ [])
    else if letter == 83 then Some (0x96 ∷ 0x69 ∷ [])
    else if letter == 84 then Some (0x61 ∷ 0x01 ∷ [])
    else if letter == 85 then Some (0xE1 ∷ 0x00 ∷ 0x00 ∷ 0x00 ∷ [])
    else if letter == 90 then Some (0x00 ∷ [])
    else None
