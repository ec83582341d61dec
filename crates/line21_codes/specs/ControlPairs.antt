-- Believed: the program's answer stands on these definitions.
-- Control pairs: a first byte 10 to 1F and a second byte 20 to 7F
-- (CTA-608-E and 47 CFR 79.101, control codes).
use Rattle.std.specs.Prelude.{ℕ, ◌==◌, ◌&&◌, ◌||◌, nat_lt, nat_le, Bool, if◌then◌else◌}
use Rattle.line21_codes.specs.declared.codes.Control.{Control}
use Rattle.line21_codes.specs.declared.codes.Control.TheVariants.{Special, Extended, Skipped}
use Rattle.line21_codes.specs.declared.pairs.Pair.{Pair}
use Rattle.line21_codes.specs.Parity.{low_bits, has_odd_parity}
use Rattle.line21_codes.specs.MiscellaneousCodes.{miscellaneous_at}
use Rattle.line21_codes.specs.MidRowCodes.{mid_row_at}
use Rattle.line21_codes.specs.PreambleCodes.{preamble_at}
use Rattle.line21_codes.specs.TabOffsets.{tab_at}

-- the two bytes, without parity, are a control pair
abbrev pub are_control : ℕ → ℕ → Bool
are_control first second = nat_le 0x10 first && nat_lt first 0x20 && nat_le 0x20 second

-- the pair is a control pair; one with bad parity is none
unfoldable pub is_control : Pair → Bool
is_control pair = has_odd_parity pair && are_control (low_bits pair.a) (low_bits pair.b)

-- the code of data channel 1 with a first byte 10 to 17: what is in none of the tables is skipped
abbrev pub control_at : ℕ → ℕ → Control
control_at first second =
    if nat_le 0x40 second then preamble_at first second
    else if first == 0x11 then (if nat_lt second 0x30 then mid_row_at second else Special second)
    else if first == 0x12 || first == 0x13 then Extended first second
    else if first == 0x14 || first == 0x15 then miscellaneous_at second
    else if first == 0x17 then tab_at second
    else Skipped
