-- Believed in part: the program's answer stands on some of these definitions.
-- The codes that can be written, by what each says; and the codes that are sent twice.
use Rattle.std.specs.Prelude.{◌≡◌, ◌⊎◌, ℕ, ◌%◌, ◌<◌, ◌≤◌, Bool, true, false, ⊤}
use Rattle.line21_codes.specs.declared.codes.Code.{Code}
use Rattle.line21_codes.specs.declared.codes.Code.TheVariants.{Null, Text, Xds, Control}
use Rattle.line21_codes.specs.declared.codes.Control.{Control as ControlCode}
use Rattle.line21_codes.specs.declared.codes.Control.TheVariants.{Ru, Tab, Preamble, Special, Extended, Skipped}
use Rattle.line21_codes.specs.declared.styles.Colour.TheVariants.{White}
use Rattle.line21_codes.specs.declared.styles.Style.{Style}
use Rattle.line21_codes.specs.declared.pairs.Pair.{Pair}
use Rattle.line21_codes.specs.Parity.{has_odd_parity}
use Rattle.line21_codes.specs.Reading.{code_of}

-- the two bytes of a text pair: the first is null or a character, and not both are null
abbrev pub IsText : ℕ → ℕ → Type 0
IsText first second =
    (first < 128) × (second < 128) × (((first ≡ 0) × (0 < second)) ⊎ (0x20 ≤ first))

-- a preamble's row, column and style: an indent is white without italics, and so are italics white
abbrev pub IsPreamble : ℕ → ℕ → Style → Type 0
IsPreamble row col style =
    (1 ≤ row) × (row ≤ 15) × (col ≤ 28) × (col % 4 ≡ 0)
    × (0 < col → style.colour ≡ White) × (0 < col → style.italic ≡ false)
    × (style.italic ≡ true → style.colour ≡ White)

-- a control code that can be written
abbrev pub IsWritableControl : ControlCode → Type 0
IsWritableControl (Ru rows) = (2 ≤ rows) × (rows ≤ 4)
IsWritableControl (Tab columns) = (1 ≤ columns) × (columns ≤ 3)
IsWritableControl (Preamble row col style) = IsPreamble row col style
IsWritableControl (Special byte) = (0x30 ≤ byte) × (byte < 0x40)
IsWritableControl (Extended set byte) =
    (0x12 ≤ set) × (set ≤ 0x13) × (0x20 ≤ byte) × (byte < 0x40)
IsWritableControl Skipped = ⊥
IsWritableControl _ = ⊤

-- a code that can be written
abbrev pub IsWritable : Code → Type 0
IsWritable Null = ⊤
IsWritable (Text first second) = IsText first second
IsWritable (Xds first second) = (1 ≤ first) × (first < 0x10) × (second < 128)
IsWritable (Control second control) = IsWritableControl control

-- a skipped control code of either data channel
abbrev pub is_skipped : Code → Bool
is_skipped (Control second Skipped) = true
is_skipped _ = false

-- some two bytes with odd parity are read as the code
abbrev pub IsReadable : Code → Type 0
IsReadable code =
    (pair : Pair) × (pair.a < 256) × (pair.b < 256)
    × (has_odd_parity pair ≡ true) × (code_of pair ≡ code)

-- control codes are sent twice
abbrev pub is_doubled : Code → Bool
is_doubled (Control second control) = true
is_doubled _ = false
