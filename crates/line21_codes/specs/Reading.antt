-- Believed: the program's answer stands on these definitions.
-- What a pair stands for: the classes of pairs (CTA-608-E and 47 CFR 79.101).
use Rattle.std.specs.Prelude.{ℕ, ◌-◌, ◌==◌, ◌&&◌, nat_lt, nat_le, true, false, if◌then◌else◌}
use Rattle.line21_codes.specs.declared.codes.Code.{Code}
use Rattle.line21_codes.specs.declared.codes.Code.TheVariants.{Null, Text, Xds, Control}
use Rattle.line21_codes.specs.declared.pairs.Pair.{Pair}
use Rattle.line21_codes.specs.Parity.{low_bits, has_odd_parity}
use Rattle.line21_codes.specs.ControlPairs.{are_control, control_at}

-- the control code of two bytes: first bytes 18 to 1F say in data channel 2 what 10 to 17 say in 1
abbrev pub control_code_at : ℕ → ℕ → Code
control_code_at first second =
    if nat_lt first 0x18 then Control false (control_at first second)
    else Control true (control_at (first - 8) second)

-- the code of two bytes without parity
abbrev pub code_at : ℕ → ℕ → Code
code_at first second =
    if are_control first second then control_code_at first second
    else if nat_le 0x10 first && nat_lt first 0x20 then Null
    else if nat_le 0x01 first && nat_lt first 0x10 then Xds first second
    else if first == 0 && second == 0 then Null
    else Text first second

-- the code of a pair: one with bad parity counts as null
unfoldable pub code_of : Pair → Code
code_of pair = if has_odd_parity pair then code_at (low_bits pair.a) (low_bits pair.b) else Null
