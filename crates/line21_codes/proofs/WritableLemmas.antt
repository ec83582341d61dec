-- Whether a code can be written, as a test, and that it tells it.
use Rattle.std.proofs.Common.{◌≡◌, ℕ, ◌%◌, ◌==◌, ◌&&◌, ◌||◌, not, Bool, true, false, nat_lt, nat_le, refl, arith}
use Rattle.std.proofs.lemmas.Bool.Decides.{nat_tests}
use Rattle.line21_codes.specs.declared.codes.Code.{Code}
use Rattle.line21_codes.specs.declared.codes.Code.TheVariants.{Null, Text, Xds, Control}
use Rattle.line21_codes.specs.declared.codes.Control.{Control as ControlCode}
use Rattle.line21_codes.specs.declared.codes.Control.TheVariants.{Ru, Tab, Preamble, Special, Extended, Skipped}
use Rattle.line21_codes.specs.declared.styles.Colour.{Colour}
use Rattle.line21_codes.specs.declared.styles.Colour.TheVariants.{White}
use Rattle.line21_codes.specs.Writable.{IsText, IsPreamble, IsWritableControl, IsWritable}

-- the colour is white
unfoldable pub is_white : Colour → Bool
is_white White = true
is_white _ = false

-- an indent is white without italics, and italics are white
unfoldable pub goes_with : ℕ → Colour → Bool → Bool
goes_with col colour italic = (col == 0 || (is_white colour && not italic)) && (not italic || is_white colour)

-- a row, a column and a style of a preamble
unfoldable pub is_preamble : ℕ → ℕ → Colour → Bool → Bool
is_preamble row col colour italic =
    nat_le 1 row && nat_le row 15 && nat_le col 28 && col % 4 == 0 && goes_with col colour italic

-- a preamble passes the test
pub IsPreamble-true : (row col : ℕ) (colour : Colour) (italic underline : Bool) → IsPreamble row col (record { colour = colour; italic = italic; underline = underline }) → is_preamble row col colour italic ≡ true
unfolding is_preamble goes_with is_white
IsPreamble-true row col White true underline h = grind (arith, nat_tests, h)
IsPreamble-true row col White false underline h = grind (arith, nat_tests, h)
IsPreamble-true row col colour true underline h = grind (arith, nat_tests, h)
IsPreamble-true row col colour false underline h = grind (arith, nat_tests, h)

-- what passes the test is a preamble
pub is_preamble-true : (row col : ℕ) (colour : Colour) (italic underline : Bool) → is_preamble row col colour italic ≡ true → IsPreamble row col (record { colour = colour; italic = italic; underline = underline })
unfolding is_preamble goes_with is_white
is_preamble-true row col White true underline h = (grind (arith, nat_tests, h), grind (arith, nat_tests, h), grind (arith, nat_tests, h), grind (arith, nat_tests, h), λ _. refl, grind (arith, nat_tests, h), λ _. refl)
is_preamble-true row col White false underline h = (grind (arith, nat_tests, h), grind (arith, nat_tests, h), grind (arith, nat_tests, h), grind (arith, nat_tests, h), λ _. refl, λ _. refl, λ _. refl)
is_preamble-true row col colour true underline h = (grind (arith, nat_tests, h), grind (arith, nat_tests, h), grind (arith, nat_tests, h), grind (arith, nat_tests, h), grind (arith, nat_tests, h), grind (arith, nat_tests, h), grind (arith, nat_tests, h))
is_preamble-true row col colour false underline h = (grind (arith, nat_tests, h), grind (arith, nat_tests, h), grind (arith, nat_tests, h), grind (arith, nat_tests, h), grind (arith, nat_tests, h), λ _. refl, λ is. cc)

-- a control code that can be written
unfoldable pub is_writable_control : ControlCode → Bool
is_writable_control (Ru rows) = nat_le 2 rows && nat_le rows 4
is_writable_control (Tab columns) = nat_le 1 columns && nat_le columns 3
is_writable_control (Preamble row col style) = is_preamble row col style.colour style.italic
is_writable_control (Special byte) = nat_le 0x30 byte && nat_lt byte 0x40
is_writable_control (Extended set byte) = nat_le 0x12 set && nat_le set 0x13 && nat_le 0x20 byte && nat_lt byte 0x40
is_writable_control Skipped = false
is_writable_control _ = true

-- what passes the test can be written
pub is_writable_control-true : (control : ControlCode) → is_writable_control control ≡ true → IsWritableControl control
unfolding is_writable_control
is_writable_control-true (Ru rows) h = (grind (arith, nat_tests, h), grind (arith, nat_tests, h))
is_writable_control-true (Tab columns) h = (grind (arith, nat_tests, h), grind (arith, nat_tests, h))
is_writable_control-true (Preamble row col style) h = is_preamble-true row col style.colour style.italic style.underline h
is_writable_control-true (Special byte) h = (grind (arith, nat_tests, h), grind (arith, nat_tests, h))
is_writable_control-true (Extended set byte) h = (grind (arith, nat_tests, h), grind (arith, nat_tests, h), grind (arith, nat_tests, h), grind (arith, nat_tests, h))
is_writable_control-true Skipped h = cc
is_writable_control-true _ h = tt

-- two bytes of a text pair
unfoldable pub is_text : ℕ → ℕ → Bool
is_text first second = nat_lt first 128 && nat_lt second 128 && ((first == 0 && nat_lt 0 second) || nat_le 0x20 first)

-- what passes the test is a text pair
pub is_text-true : (first second : ℕ) → is_text first second ≡ true → IsText first second
unfolding is_text
is_text-true first second h = (grind (arith, nat_tests, h), grind (arith, nat_tests, h), grind (arith, nat_tests, h))

-- a text pair passes the test
pub IsText-true : (first second : ℕ) → IsText first second → is_text first second ≡ true
unfolding is_text
IsText-true first second h = grind (arith, nat_tests, h)

-- a code that can be written
unfoldable pub is_writable : Code → Bool
is_writable Null = true
is_writable (Text first second) = is_text first second
is_writable (Xds first second) = nat_le 1 first && nat_lt first 0x10 && nat_lt second 128
is_writable (Control second control) = is_writable_control control

-- what passes the test can be written
pub is_writable-true : (code : Code) → is_writable code ≡ true → IsWritable code
unfolding is_writable
is_writable-true Null h = tt
is_writable-true (Text first second) h = is_text-true first second h
is_writable-true (Xds first second) h = (grind (arith, nat_tests, h), grind (arith, nat_tests, h), grind (arith, nat_tests, h))
is_writable-true (Control second control) h = is_writable_control-true control h
