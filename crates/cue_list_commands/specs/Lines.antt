-- Believed: the program's answer stands on these definitions.
-- The lines of `pairs`: one a frame, with the pairs of field 1 and of field 2.
use Rattle.std.specs.Prelude.{ℕ, zero, suc, ◌/◌, ◌%◌, Option, Some, None, List, [], ◌∷◌, ◌++◌, codes}
use Rattle.line21_codes.specs.declared.pairs.Pair.{Pair}
use Rattle.frame_carrier.specs.Columns.{Columns}
use Rattle.hex_digits.specs.HexDigits.{upper_hex_digit}

-- a pair as four upper-case hex digits, or `----` where the frame has no slot of the field
abbrev pub pair_text : Option Pair → List ℕ
pair_text None = codes "----"
pair_text (Some pair) =
    upper_hex_digit (pair.a / 16) ∷ upper_hex_digit (pair.a % 16) ∷ upper_hex_digit (pair.b / 16) ∷ upper_hex_digit (pair.b % 16) ∷ []

-- the line of a frame: `AAAA BBBB` and a line feed
abbrev pub pair_line : Option Pair → Option Pair → List ℕ
pair_line one two = pair_text one ++ codes " " ++ pair_text two ++ codes "\n"

-- the lines of this many frames, from a frame on
abbrev pub pair_lines : Columns → ℕ → ℕ → List ℕ
pair_lines columns frame zero = []
pair_lines columns frame (suc n) = pair_line (columns frame).one (columns frame).two ++ pair_lines columns (suc frame) n
