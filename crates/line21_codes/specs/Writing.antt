-- Believed: the program's answer stands on these definitions.
-- How a code is written as a pair: the tables from a code to its bytes
-- (CTA-608-E and 47 CFR 79.101).
use Rattle.std.specs.Prelude.{ℕ, ◌+◌, ◌-◌, ◌/◌, Bool, true, false, if◌then◌else◌, List, [], ◌∷◌, Some, None, Option, slice_index_or}
use Rattle.line21_codes.specs.declared.channels.FieldNumber.{FieldNumber}
use Rattle.line21_codes.specs.declared.codes.Code.{Code}
use Rattle.line21_codes.specs.declared.codes.Code.TheVariants.{Null, Text, Xds, Control}
use Rattle.line21_codes.specs.declared.codes.Control.{Control as ControlCode}
use Rattle.line21_codes.specs.declared.codes.Control.TheVariants.{Rcl, Bs, Der, Ru, Fon, Rdc, Tr, Rtd, Edm, Cr, Enm, Eoc, Tab, MidRow, Preamble, Special, Extended, Skipped}
use Rattle.line21_codes.specs.declared.styles.Colour.{Colour}
use Rattle.line21_codes.specs.declared.styles.Colour.TheVariants.{White, Green, Blue, Cyan, Red, Yellow, Magenta}
use Rattle.line21_codes.specs.declared.styles.Style.{Style}
use Rattle.line21_codes.specs.declared.pairs.Pair.{Pair}
use Rattle.line21_codes.specs.Parity.{with_parity}
use Rattle.line21_codes.specs.MiscellaneousCodes.{miscellaneous_first}

-- one more where underlined
abbrev pub underline_bit : Bool → ℕ
underline_bit true = 1
underline_bit false = 0

-- the colours' low bits, in mid-row codes and in preambles
abbrev pub colour_bits : Colour → ℕ
colour_bits White = 0x00
colour_bits Green = 0x02
colour_bits Blue = 0x04
colour_bits Cyan = 0x06
colour_bits Red = 0x08
colour_bits Yellow = 0x0A
colour_bits Magenta = 0x0C

-- italics' low bits, in mid-row codes and in preambles
abbrev pub italic_bits : ℕ
italic_bits = 0x0E

-- the low bits of a mid-row code; no colour is italics
abbrev pub mid_row_bits : Option Colour → ℕ
mid_row_bits (Some colour) = colour_bits colour
mid_row_bits None = italic_bits

-- the low bits of a preamble's colour: white has an indent of the column, also at column 0
abbrev pub indent_bits : Colour → ℕ → ℕ
indent_bits White col = 0x10 + col / 2
indent_bits colour col = colour_bits colour

-- the low five bits of a preamble
abbrev pub preamble_bits : ℕ → Style → ℕ
preamble_bits col style =
    (if style.italic then italic_bits else indent_bits style.colour col) + underline_bit style.underline

-- the first byte and the lowest second byte of the preambles of the rows 1 to 15
abbrev pub row_bytes : List (ℕ × ℕ)
row_bytes =
    (0x11, 0x40) ∷ (0x11, 0x60) ∷ (0x12, 0x40) ∷ (0x12, 0x60) ∷ (0x15, 0x40)
    ∷ (0x15, 0x60) ∷ (0x16, 0x40) ∷ (0x16, 0x60) ∷ (0x17, 0x40) ∷ (0x17, 0x60)
    ∷ (0x10, 0x40) ∷ (0x13, 0x40) ∷ (0x13, 0x60) ∷ (0x14, 0x40) ∷ (0x14, 0x60) ∷ []

-- the first byte and the lowest second byte of a row's preambles
abbrev pub row_bytes_at : ℕ → ℕ × ℕ
row_bytes_at row = slice_index_or row_bytes (row - 1) (0, 0)

-- a preamble's two bytes
abbrev pub preamble_bytes : ℕ → ℕ → Style → ℕ × ℕ
preamble_bytes row col style = ((row_bytes_at row).0, (row_bytes_at row).1 + preamble_bits col style)

-- a control code's two bytes in data channel 1 of a field; a skipped code is never written
abbrev pub control_bytes : FieldNumber → ControlCode → ℕ × ℕ
control_bytes in_field Rcl = (miscellaneous_first in_field, 0x20)
control_bytes in_field Bs = (miscellaneous_first in_field, 0x21)
control_bytes in_field Der = (miscellaneous_first in_field, 0x24)
control_bytes in_field (Ru rows) = (miscellaneous_first in_field, 0x23 + rows)
control_bytes in_field Fon = (miscellaneous_first in_field, 0x28)
control_bytes in_field Rdc = (miscellaneous_first in_field, 0x29)
control_bytes in_field Tr = (miscellaneous_first in_field, 0x2A)
control_bytes in_field Rtd = (miscellaneous_first in_field, 0x2B)
control_bytes in_field Edm = (miscellaneous_first in_field, 0x2C)
control_bytes in_field Cr = (miscellaneous_first in_field, 0x2D)
control_bytes in_field Enm = (miscellaneous_first in_field, 0x2E)
control_bytes in_field Eoc = (miscellaneous_first in_field, 0x2F)
control_bytes in_field (Tab columns) = (0x17, 0x20 + columns)
control_bytes in_field (MidRow colour underline) =
    (0x11, 0x20 + mid_row_bits colour + underline_bit underline)
control_bytes in_field (Preamble row col style) = preamble_bytes row col style
control_bytes in_field (Special byte) = (0x11, byte)
control_bytes in_field (Extended set byte) = (set, byte)
control_bytes in_field Skipped = (0x10, 0x20)

-- a code's two bytes without parity; data channel 2 has first bytes that are 8 greater
abbrev pub code_bytes : FieldNumber → Code → ℕ × ℕ
code_bytes in_field Null = (0, 0)
code_bytes in_field (Text first second) = (first, second)
code_bytes in_field (Xds first second) = (first, second)
code_bytes in_field (Control second control) =
    let bytes = control_bytes in_field control in
    (if second then bytes.0 + 8 else bytes.0, bytes.1)

-- the pair with which a field writes a code
unfoldable pub pair_of_code : FieldNumber → Code → Pair
pair_of_code in_field code =
    let bytes = code_bytes in_field code in
    record { a = with_parity bytes.0; b = with_parity bytes.1 }
