use Rattle.std.proofs.Common.{◌≡◌, ℕ, ◌-◌, ◌%◌, ◌<◌, ◌≤◌, ◌==◌, Bool, true, false, [], ◌∷◌, ◌++◌, refl, arith, lit≤}
use Rattle.std.specs.Prelude.{if◌then◌else◌}
use Rattle.std.proofs.lemmas.Bool.Decides.{nat_tests}
use Rattle.line21_codes.specs.declared.codes.Control.TheVariants.{Preamble, Tab, MidRow}
use Rattle.line21_codes.specs.declared.styles.Colour.TheVariants.{White}
use Rattle.line21_codes.specs.declared.styles.Style.{Style}
use Rattle.line21_codes.specs.Writable.{IsPreamble}
use Rattle.cue_lists.specs.declared.cue.Pen.{Pen}
use Rattle.cue_lists.specs.declared.cue.Pen.TheVariants.{Line21, Dtv}
use Rattle.cue_lists.specs.declared.cue.Run.{Run}
use Rattle.cue_lists.specs.Line21Cues.{IsLine21Pen, IsLine21Run}
use Rattle.cue_lists.specs.Windows.{IsWindowPen}
use Rattle.cue_lists.specs.declared.cue.WinCue.{WinCue}
use Rattle.cue_lists.specs.Windows.{IsWindowRun}
use Rattle.line21_author.specs.FirstChannel.{first_channel}
use Rattle.line21_author.specs.TextCodes.{text_codes}
use Rattle.line21_author.specs.RunCodes.{is_upright_white, white, tab_codes, white_approach, mid_row_colour, approach, codes_with, run_codes}
use Rattle.line21_author.proofs.TextCodesLemmas.{AreWritable, AreWritable-append, text_codes_writable}

-- a row of the caption grid
abbrev pub IsRow : ℕ → Type 0
IsRow row = (1 ≤ row) × (row ≤ 15)

-- a test that a number is 0 fails, where the number is above 0
tab_writable_at : (t : Bool) (columns : ℕ) → (columns == 0) ≡ t → columns ≤ 3
    → AreWritable (if t then [] else first_channel (Tab columns) ∷ [])
tab_writable_at true columns test below = tt
tab_writable_at false columns test below =
    ((grind (arith, nat_tests), below), tt)

-- a tab offset of at most three columns can be written
tab_codes_writable : (columns : ℕ) → columns ≤ 3 → AreWritable (tab_codes columns)
tab_codes_writable columns below = tab_writable_at (columns == 0) columns refl below

-- a white preamble with an indent can be written
indent_writable : (row col : ℕ) (underline : Bool) → IsRow row → col ≤ 31
    → IsPreamble row (col - col % 4) (white underline)
indent_writable row col underline in_rows below =
    (in_rows.0, in_rows.1, omega arith, omega arith, λ _. refl, λ _. refl, λ _. refl)

-- the codes that lead to a place in white can be written
white_approach_writable : (row col : ℕ) (underline : Bool) → IsRow row → col ≤ 31
    → AreWritable (white_approach row col underline)
white_approach_writable row col underline in_rows below =
    (indent_writable row col underline in_rows below, tab_codes_writable (col % 4) (omega arith))

-- the codes that lead to a place and style can be written, by whether the style is upright white and the column the first
approach_writable_at : (plain at_left : Bool) (row col : ℕ) (style : Style) → IsRow row → col ≤ 31
    → (style.italic ≡ true → style.colour ≡ White)
    → AreWritable
    (if plain then white_approach row col style.underline
    else if at_left then first_channel (Preamble row 0 style) ∷ []
    else white_approach row (col - 1) false ++ first_channel (MidRow (mid_row_colour style) style.underline) ∷ [])
approach_writable_at true at_left row col style in_rows below white_italics =
    white_approach_writable row col style.underline in_rows below
approach_writable_at false true row col style in_rows below white_italics =
    ((in_rows.0, in_rows.1, lit≤ tt, refl, λ (h : 0 < 0). absurd (omega arith), λ (h : 0 < 0). absurd (omega arith), white_italics), tt)
approach_writable_at false false row col style in_rows below white_italics =
    AreWritable-append (white_approach row (col - 1) false) (first_channel (MidRow (mid_row_colour style) style.underline) ∷ [])
    (white_approach_writable row (col - 1) false in_rows (omega arith))
    ((tt, tt))

-- the codes that lead to a place and style can be written
pub approach_writable : (row col : ℕ) (style : Style) → IsRow row → col ≤ 31
    → (style.italic ≡ true → style.colour ≡ White) → AreWritable (approach row col style)
approach_writable row col style in_rows below white_italics =
    approach_writable_at (is_upright_white style) (col == 0) row col style in_rows below white_italics

-- the codes of a line 21 run with a pen can be written
codes_with_writable : (pen : Pen) (run : Run) → IsLine21Pen pen → IsRow run.row → run.col ≤ 31
    → AreWritable (codes_with pen run)
codes_with_writable (Line21 style) run white_italics in_rows below =
    AreWritable-append (approach run.row run.col style) (text_codes run.text) (approach_writable run.row run.col style in_rows below white_italics)
    (text_codes_writable run.text)
codes_with_writable (Dtv italic underline) run none in_rows below = absurd none

-- the codes of a line 21 run can be written
pub run_codes_writable : (run : Run) → IsLine21Run run → AreWritable (run_codes run)
run_codes_writable run formed = codes_with_writable run.pen run formed.pen formed.row formed.col

-- a window's pen has no codes
no_codes_with : (pen : Pen) (run : Run) → IsWindowPen pen → AreWritable (codes_with pen run)
no_codes_with (Line21 style) run none = absurd none
no_codes_with (Dtv italic underline) run window = tt

-- a window's run has no codes
pub window_run_writable : (w : WinCue) (run : Run) → IsWindowRun w run → AreWritable (run_codes run)
window_run_writable w run formed = no_codes_with run.pen run formed.pen
