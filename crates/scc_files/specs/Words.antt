-- Believed: the program's answer stands on these definitions.
-- The words of pairs as they are written.
use Rattle.std.specs.Prelude.{ℕ, ◌/◌, ◌%◌, List, [], ◌∷◌}
use Rattle.hex_digits.specs.HexDigits.{lower_hex_digit}
use Rattle.line21_codes.specs.declared.pairs.Pair.{Pair}

-- a pair's word: four lower-case hex digits
abbrev pub pair_word : Pair → List ℕ
pair_word pair = lower_hex_digit (pair.a / 16) ∷ lower_hex_digit (pair.a % 16) ∷ lower_hex_digit (pair.b / 16) ∷ lower_hex_digit (pair.b % 16) ∷ []
