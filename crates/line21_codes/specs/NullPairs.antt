-- Believed: the program's answer stands on these definitions.
-- Null pairs of line 21, which a field carries where it has nothing to say (CTA-608-E).
use Rattle.std.specs.Prelude.{◌==◌, ◌&&◌, Bool}
use Rattle.line21_codes.specs.declared.pairs.Pair.{Pair}

-- two bytes 00, with odd parity
abbrev pub null_pair : Pair
null_pair = record { a = 0x80; b = 0x80 }

-- the pair is that one
abbrev pub is_null : Pair → Bool
is_null pair = (pair.a == 0x80) && (pair.b == 0x80)
