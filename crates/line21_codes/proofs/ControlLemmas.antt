-- Each control code that can be written is read back from its bytes, which are a control pair
-- of data channel 1. The tables are tried whole.
use Rattle.std.proofs.Common.{◌≡◌, ℕ, ◌<◌, ◌≤◌, ◌&&◌, Bool, true, false, nat_lt, nat_le, Option, Some, None, refl, arith}
use Rattle.std.proofs.lemmas.Bool.Decides.{nat_tests}
use Rattle.line21_codes.specs.declared.channels.FieldNumber.{FieldNumber}
use Rattle.line21_codes.specs.declared.channels.FieldNumber.TheVariants.{One, Two}
use Rattle.line21_codes.specs.declared.codes.Control.{Control}
use Rattle.line21_codes.specs.declared.codes.Control.TheVariants.{Rcl, Bs, Der, Ru, Fon, Rdc, Tr, Rtd, Edm, Cr, Enm, Eoc, Tab, MidRow, Preamble, Special, Extended, Skipped}
use Rattle.line21_codes.specs.declared.styles.Colour.{Colour}
use Rattle.line21_codes.specs.declared.styles.Colour.TheVariants.{White, Green, Blue, Cyan, Red, Yellow, Magenta}
use Rattle.line21_codes.specs.declared.styles.Style.{Style}
use Rattle.line21_codes.specs.ControlPairs.{control_at}
use Rattle.line21_codes.specs.Writing.{control_bytes}
use Rattle.line21_codes.specs.Writable.{IsPreamble, IsWritableControl}
use Rattle.line21_codes.proofs.Tables.{all_below, at_each, implies, implies-true, all_bools, at_bool, all_fields, at_field, all_colours, at_colour}
use Rattle.line21_codes.specs.SameStyles.{same_colour, same_style}
use Rattle.line21_codes.proofs.Same.{same_choice, same_control}
use Rattle.line21_codes.proofs.WritableLemmas.{is_white, goes_with, is_preamble, IsPreamble-true}

-- the bytes are a control pair of data channel 1, and are read as the code
unfoldable pub reads_back : FieldNumber → Control → Bool
reads_back in_field control =
    let bytes = control_bytes in_field control in
    nat_le 0x10 bytes.0 && nat_lt bytes.0 0x18 && nat_le 0x20 bytes.1 && nat_lt bytes.1 0x80
    && same_control (control_at bytes.0 bytes.1) control

-- roll-up of 2 to 4 rows
ru_back : FieldNumber → ℕ → Bool
ru_back in_field rows = implies (nat_le 2 rows && nat_le rows 4) (reads_back in_field (Ru rows))

-- the whole table
ru_test : all_fields (λ in_field. all_below (ru_back in_field) 5) ≡ true
unfolding all_below all_fields ru_back implies reads_back same_control
ru_test = refl

-- roll-up codes are read back
ru-true : (f : FieldNumber) (rows : ℕ) → 2 ≤ rows → rows ≤ 4 → reads_back f (Ru rows) ≡ true
unfolding ru_back
ru-true f rows from to =
    implies-true (nat_le 2 rows && nat_le rows 4) (reads_back f (Ru rows))
    (at_each (ru_back f) 5 (at_field (λ f. all_below (ru_back f) 5) ru_test f) rows (omega arith)) (grind (arith, nat_tests))

-- tab offsets of 1 to 3 columns
tab_back : FieldNumber → ℕ → Bool
tab_back in_field columns = implies (nat_le 1 columns && nat_le columns 3) (reads_back in_field (Tab columns))

-- the whole table
tab_test : all_fields (λ in_field. all_below (tab_back in_field) 4) ≡ true
unfolding all_below all_fields tab_back implies reads_back same_control
tab_test = refl

-- tab offsets are read back
tab-true : (f : FieldNumber) (columns : ℕ) → 1 ≤ columns → columns ≤ 3 → reads_back f (Tab columns) ≡ true
unfolding tab_back
tab-true f columns from to =
    implies-true (nat_le 1 columns && nat_le columns 3) (reads_back f (Tab columns))
    (at_each (tab_back f) 4 (at_field (λ f. all_below (tab_back f) 4) tab_test f) columns (omega arith)) (grind (arith, nat_tests))

-- special characters
special_back : FieldNumber → ℕ → Bool
special_back in_field byte = implies (nat_le 0x30 byte && nat_lt byte 0x40) (reads_back in_field (Special byte))

-- the whole table
special_test : all_fields (λ in_field. all_below (special_back in_field) 64) ≡ true
unfolding all_below all_fields special_back implies reads_back same_control
special_test = refl

-- special characters are read back
special-true : (f : FieldNumber) (byte : ℕ) → 0x30 ≤ byte → byte < 0x40 → reads_back f (Special byte) ≡ true
unfolding special_back
special-true f byte from to =
    implies-true (nat_le 0x30 byte && nat_lt byte 0x40) (reads_back f (Special byte))
    (at_each (special_back f) 64 (at_field (λ f. all_below (special_back f) 64) special_test f) byte to) (grind (arith, nat_tests))

-- extended characters
extended_back : FieldNumber → ℕ → ℕ → Bool
extended_back in_field set byte = implies (nat_le 0x12 set && nat_le set 0x13 && nat_le 0x20 byte && nat_lt byte 0x40) (reads_back in_field (Extended set byte))

-- the whole table
extended_test : all_fields (λ in_field. all_below (λ set. all_below (extended_back in_field set) 64) 20) ≡ true
unfolding all_below all_fields extended_back implies reads_back same_control
extended_test = refl

-- extended characters are read back
extended-true : (f : FieldNumber) (set byte : ℕ) → 0x12 ≤ set → set ≤ 0x13 → 0x20 ≤ byte → byte < 0x40 → reads_back f (Extended set byte) ≡ true
unfolding extended_back
extended-true f set byte set_from set_to from to =
    let sets = at_field (λ f. all_below (λ set. all_below (extended_back f set) 64) 20) extended_test f in
    let bytes = at_each (λ set. all_below (extended_back f set) 64) 20 sets set (omega arith) in
    implies-true (nat_le 0x12 set && nat_le set 0x13 && nat_le 0x20 byte && nat_lt byte 0x40) (reads_back f (Extended set byte))
    (at_each (extended_back f set) 64 bytes byte to) (grind (arith, nat_tests))

-- preambles of every row, column and style
preamble_back : FieldNumber → ℕ → ℕ → Colour → Bool → Bool → Bool
preamble_back in_field row col colour italic underline =
    implies (is_preamble row col colour italic) (reads_back in_field (Preamble row col (record { colour = colour; italic = italic; underline = underline })))

-- the styles of one row and column
preamble_row_back : FieldNumber → ℕ → ℕ → Bool
preamble_row_back in_field row col =
    all_colours (λ colour. all_bools (λ italic. all_bools (preamble_back in_field row col colour italic)))

-- the whole table
preamble_test : all_fields (λ in_field. all_below (λ row. all_below (preamble_row_back in_field row) 29) 16) ≡ true
unfolding all_below all_fields all_bools all_colours preamble_row_back preamble_back implies is_preamble goes_with is_white reads_back same_control same_style same_colour
preamble_test = refl

-- preambles are read back
preamble-true : (f : FieldNumber) (row col : ℕ) (style : Style) → IsPreamble row col style → reads_back f (Preamble row col style) ≡ true
unfolding preamble_row_back preamble_back
preamble-true f row col style h =
    let rows = at_field (λ f. all_below (λ row. all_below (preamble_row_back f row) 29) 16) preamble_test f in
    let columns = at_each (λ row. all_below (preamble_row_back f row) 29) 16 rows row (omega arith) in
    let colours = at_each (preamble_row_back f row) 29 columns col (omega arith) in
    let italics = at_colour (λ colour. all_bools (λ italic. all_bools (preamble_back f row col colour italic))) colours style.colour in
    let underlines = at_bool (λ italic. all_bools (preamble_back f row col style.colour italic)) italics style.italic in
    implies-true (is_preamble row col style.colour style.italic) (reads_back f (Preamble row col style))
    (at_bool (preamble_back f row col style.colour style.italic) underlines style.underline)
    (IsPreamble-true row col style.colour style.italic style.underline h)

-- mid-row codes
mid_row-true : (f : FieldNumber) (colour : Option Colour) (underline : Bool) → reads_back f (MidRow colour underline) ≡ true
unfolding reads_back same_control same_choice same_colour
mid_row-true f None true = refl
mid_row-true f None false = refl
mid_row-true f (Some White) true = refl
mid_row-true f (Some White) false = refl
mid_row-true f (Some Green) true = refl
mid_row-true f (Some Green) false = refl
mid_row-true f (Some Blue) true = refl
mid_row-true f (Some Blue) false = refl
mid_row-true f (Some Cyan) true = refl
mid_row-true f (Some Cyan) false = refl
mid_row-true f (Some Red) true = refl
mid_row-true f (Some Red) false = refl
mid_row-true f (Some Yellow) true = refl
mid_row-true f (Some Yellow) false = refl
mid_row-true f (Some Magenta) true = refl
mid_row-true f (Some Magenta) false = refl

-- every control code that can be written is read back
pub reads_back-true : (in_field : FieldNumber) (control : Control) → IsWritableControl control → reads_back in_field control ≡ true
unfolding reads_back same_control same_choice same_colour
reads_back-true Two Rcl h = refl
reads_back-true One Rcl h = refl
reads_back-true Two Bs h = refl
reads_back-true One Bs h = refl
reads_back-true Two Der h = refl
reads_back-true One Der h = refl
reads_back-true Two Fon h = refl
reads_back-true One Fon h = refl
reads_back-true Two Rdc h = refl
reads_back-true One Rdc h = refl
reads_back-true Two Tr h = refl
reads_back-true One Tr h = refl
reads_back-true Two Rtd h = refl
reads_back-true One Rtd h = refl
reads_back-true Two Edm h = refl
reads_back-true One Edm h = refl
reads_back-true Two Cr h = refl
reads_back-true One Cr h = refl
reads_back-true Two Enm h = refl
reads_back-true One Enm h = refl
reads_back-true Two Eoc h = refl
reads_back-true One Eoc h = refl
reads_back-true f (Ru rows) h = ru-true f rows h.0 h.1
reads_back-true f (Tab columns) h = tab-true f columns h.0 h.1
reads_back-true f (MidRow colour underline) h = mid_row-true f colour underline
reads_back-true f (Preamble row col style) h = preamble-true f row col style h
reads_back-true f (Special byte) h = special-true f byte h.0 h.1
reads_back-true f (Extended set byte) h = extended-true f set byte h.0 h.1 h.2 h.3
reads_back-true f Skipped h = absurd h
