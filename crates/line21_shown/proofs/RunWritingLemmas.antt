-- The codes of a run write exactly its cells: its lead cell, where it has one, and its text.
use Rattle.std.proofs.Common.{◌≡◌, ℕ, ◌+◌, ◌-◌, ◌%◌, ◌<◌, ◌≤◌, ◌==◌, ◌&&◌, ◌||◌, not, nat_le, nat_lt, Bool, true, false, if◌then◌else◌, Option, Some, None, List, [], ◌∷◌, ◌++◌, length, get_or, refl, sym, ap, ◌∙◌, arith}
use Rattle.std.proofs.Math.Path.{fun_ext}
use Rattle.std.proofs.lemmas.Bool.Decides.{nat_tests}
use Rattle.line21_codes.specs.declared.codes.Control.TheVariants.{Tab, MidRow, Preamble}
use Rattle.line21_codes.specs.declared.styles.Cell.{Cell}
use Rattle.line21_codes.specs.declared.styles.Colour.{Colour}
use Rattle.line21_codes.specs.declared.styles.Colour.TheVariants.{White, Green, Blue, Cyan, Red, Yellow, Magenta}
use Rattle.line21_codes.specs.declared.styles.Style.{Style}
use Rattle.cue_lists.specs.declared.cue.Pen.{Pen}
use Rattle.cue_lists.specs.declared.cue.Pen.TheVariants.{Line21, Dtv}
use Rattle.cue_lists.specs.declared.cue.Run.{Run}
use Rattle.cue_lists.specs.AuthoredGrid.{character_at}
use Rattle.cue_lists.specs.Line21Cues.{IsLine21Run}
use Rattle.cue_lists.specs.Rules.Cells.{is_white, is_coloured, has_lead}
use Rattle.frame_scheduler.specs.FirstChannel.{first_channel}
use Rattle.frame_scheduler.specs.RunCodes.{white, is_upright_white, tab_codes, white_approach, mid_row_colour, approach, run_codes}
use Rattle.frame_scheduler.specs.TextCodes.{text_codes}
use Rattle.line21_screen.specs.Grid.{Grid, with_cell}
use Rattle.line21_screen.specs.Pens.{PenState, mid_row_style}
use Rattle.line21_shown.specs.Doing.{does, does_all}
use Rattle.line21_shown.specs.Writing.{with_run, pen_behind}
use Rattle.line21_shown.proofs.CanvasLemmas.{Captions, canvas, pen_at, cell_of, IsHeld, preamble_on, tab_on, mid_row_on}
use Rattle.line21_shown.proofs.TextWritingLemmas.{does_all-append, with_text, text_on, joined, with_text_at}

-- a tab offset, by whether one is needed
tabs_at : (none : Bool) (k : Captions) (o : Grid) (b : ℕ) (g : Grid) (row col : ℕ) (style : Style) (columns : ℕ)
    → (columns == 0) ≡ none → col + columns ≤ 31
    → does_all (if none then [] else first_channel (Tab columns) ∷ []) (canvas k o b g (pen_at row col style))
    ≡ canvas k o b g (pen_at row (col + columns) style)
tabs_at true k o b g row col style columns is below =
    let same : col + columns ≡ col = grind (arith, nat_tests) in rw same refl
tabs_at false k o b g row col style columns is below = tab_on k o b g row col style columns below

-- to a place in white: the indent and the tab offset together are the column
white_on : (k : Captions) (o : Grid) (b : ℕ) (g : Grid) (p : PenState) (row col : ℕ) (underline : Bool) → IsHeld k b g row → col ≤ 31
    → does_all (white_approach row col underline) (canvas k o b g p) ≡ canvas k o b g (pen_at row col (white underline))
white_on k o b g p row col underline held below =
    let whole : col - col % 4 + col % 4 ≡ col = omega arith in
    ap (does_all (tab_codes (col % 4))) (preamble_on k o b g p row (col - col % 4) (white underline) held)
    ∙ tabs_at (col % 4 == 0) k o b g row (col - col % 4) (white underline) (col % 4) refl (omega arith)
    ∙ ap (λ n. canvas k o b g (pen_at row n (white underline))) whole

-- a style that is upright white is its preamble's
upright_white : (colour : Colour) (italic underline : Bool) → (is_white colour && not italic) ≡ true
    → white underline ≡ record { colour = colour; italic = italic; underline = underline }
upright_white White false underline is = refl
upright_white White true underline is = cc
upright_white Green italic underline is = cc
upright_white Blue italic underline is = cc
upright_white Cyan italic underline is = cc
upright_white Red italic underline is = cc
upright_white Yellow italic underline is = cc
upright_white Magenta italic underline is = cc

-- the style after its mid-row code: italics, which are white, keep the white of the preamble before
mid_row_is : (colour : Colour) (italic underline : Bool) → (italic ≡ true → colour ≡ White)
    → mid_row_style (if italic then None else Some colour) underline (white false)
    ≡ record { colour = colour; italic = italic; underline = underline }
mid_row_is colour false underline white_italics = refl
mid_row_is colour true underline white_italics =
    ap (λ c. record { colour = c; italic = true; underline = underline }) (sym (white_italics refl))

-- a memory with a lead cell, unless the style is upright white or the column the first
abbrev led : Bool → Bool → Grid → ℕ → ℕ → Style → Grid
led plain at_left g row col style =
    if plain then g else if at_left then g else with_cell g row (col - 1) (cell_of 0x20 style)

-- to a place and style, by whether the style is upright white and the column the first
approach_at : (plain at_left : Bool) (k : Captions) (o : Grid) (b : ℕ) (g : Grid) (p : PenState) (row col : ℕ) (style : Style)
    → is_upright_white style ≡ plain → (col == 0) ≡ at_left → IsHeld k b g row → col ≤ 31 → (style.italic ≡ true → style.colour ≡ White)
    → does_all
    (if plain then white_approach row col style.underline
    else if at_left then first_channel (Preamble row 0 style) ∷ []
    else white_approach row (col - 1) false ++ first_channel (MidRow (mid_row_colour style) style.underline) ∷ [])
    (canvas k o b g p)
    ≡ canvas k o b (led plain at_left g row col style) (pen_at row col style)
approach_at true at_left k o b g p row col style plain_is left_is held below white_italics =
    white_on k o b g p row col style.underline held below
    ∙ ap (λ x. canvas k o b g (pen_at row col x)) (upright_white style.colour style.italic style.underline plain_is)
approach_at false true k o b g p row col style plain_is left_is held below white_italics =
    let first : 0 ≡ col = grind (arith, nat_tests) in
    preamble_on k o b g p row 0 style held ∙ ap (λ n. canvas k o b g (pen_at row n style)) first
approach_at false false k o b g p row col style plain_is left_is held below white_italics =
    let mid_row = first_channel (MidRow (mid_row_colour style) style.underline) in
    let next : col - 1 + 1 ≡ col = grind (arith, nat_tests) in
    does_all-append (white_approach row (col - 1) false) (mid_row ∷ []) (canvas k o b g p)
    ∙ ap (does mid_row) (white_on k o b g p row (col - 1) false held (omega arith))
    ∙ mid_row_on k o b g row (col - 1) (white false) (mid_row_colour style) style.underline (omega arith)
    ∙ ap (λ x. canvas k o b (with_cell g row (col - 1) (cell_of 0x20 x)) (pen_at row (col - 1 + 1) x))
    (mid_row_is style.colour style.italic style.underline white_italics)
    ∙ ap (λ n. canvas k o b (with_cell g row (col - 1) (cell_of 0x20 style)) (pen_at row n style)) next

-- a pen is coloured where its style isn't upright white
not_both : (a b : Bool) → (not a || b) ≡ not (a && not b)
not_both true true = refl
not_both true false = refl
not_both false b = refl

coloured_is : (style : Style) → is_coloured (Line21 style) ≡ not (is_upright_white style)
coloured_is style =
    not_both (is_white style.colour) style.italic

-- a run of its parts
abbrev run_of : ℕ → ℕ → Style → List ℕ → Run
run_of row col style text = record { row = row; col = col; pen = Line21 style; text = text; colors = None }

-- a place that the run covers, by whether it has a lead cell
abbrev covered : Bool → ℕ → ℕ → ℕ → ℕ → ℕ → Bool
covered lead row col count r c = r == row && (nat_le (if lead then col - 1 else col) c && nat_lt c (col + count))

-- two choices by one test
same_choice : (a b : Bool) (x y z : Option Cell) → a ≡ b → (b ≡ true → x ≡ y) → (if a then x else z) ≡ (if b then y else z)
same_choice a true x y z same inside = rw same (inside refl)
same_choice a false x y z same inside = rw same refl

-- the character of a run at a column of its text
character_in : (row col : ℕ) (style : Style) (text : List ℕ) (c : ℕ) → col ≤ c
    → character_at (run_of row col style text) c ≡ get_or text (c - col) 0x20
character_in row col style text c from = let behind : nat_lt c col ≡ false = grind (arith, nat_tests) in rw behind refl

-- and at its lead cell
character_before : (row col : ℕ) (style : Style) (text : List ℕ) (c : ℕ) → c < col → character_at (run_of row col style text) c ≡ 0x20
character_before row col style text c before = let at : nat_lt c col ≡ true = grind (arith, nat_tests) in rw at refl

-- the cells of a run, without a lead cell and with one, are those that its codes write
cells_at : (lead : Bool) (g : Grid) (row col : ℕ) (style : Style) (text : List ℕ) (r c : ℕ) → (lead ≡ true → 1 ≤ col)
    → (if covered lead row col (length text) r c then cell_of (character_at (run_of row col style text) c) style else g r c)
    ≡ with_text (if lead then with_cell g row (col - 1) (cell_of 0x20 style) else g) row col style text r c
cells_at false g row col style text r c some =
    same_choice (covered false row col (length text) r c) (covered false row col (length text) r c)
    (cell_of (character_at (run_of row col style text) c) style) (cell_of (get_or text (c - col) 0x20) style) (g r c) refl
    (λ inside. ap (λ ch. cell_of ch style) (character_in row col style text c (grind (arith, nat_tests))))
    ∙ sym (with_text_at text g row col style r c)
cells_at true g row col style text r c some =
    let from : 1 ≤ col = some refl in
    let lead : Grid = with_cell g row (col - 1) (cell_of 0x20 style) in
    sym
    (with_text_at text lead row col style r c
    ∙ joined (r == row && (nat_le col c && nat_lt c (col + length text))) (r == row && c == col - 1) (covered true row col (length text) r c)
    (cell_of (get_or text (c - col) 0x20) style) (cell_of 0x20 style) (g r c) (cell_of (character_at (run_of row col style text) c) style)
    (λ inside. (grind (arith, nat_tests), ap (λ ch. cell_of ch style) (sym (character_in row col style text c (grind (arith, nat_tests))))))
    (λ outside here. (grind (arith, nat_tests), ap (λ ch. cell_of ch style) (sym (character_before row col style text c (grind (arith, nat_tests))))))
    (λ outside elsewhere. grind (arith, nat_tests)))

-- what the codes of the approach wrote is the lead cell
led_is : (plain at_left lead : Bool) (g : Grid) (row col : ℕ) (style : Style) → lead ≡ (not plain && not at_left)
    → (if lead then with_cell g row (col - 1) (cell_of 0x20 style) else g) ≡ led plain at_left g row col style
led_is true at_left lead g row col style is = rw is refl
led_is false true lead g row col style is = rw is refl
led_is false false lead g row col style is = rw is refl

-- a run has a lead cell where its style isn't upright white and its column isn't the first
lead_is : (row col : ℕ) (style : Style) (text : List ℕ)
    → has_lead (run_of row col style text) ≡ (not (is_upright_white style) && not (col == 0))
lead_is row col style text =
    let right : nat_lt 0 col ≡ not (col == 0) = grind (arith, nat_tests) in
    ap (λ x. x && nat_lt 0 col) (coloured_is style) ∙ ap (λ x. not (is_upright_white style) && x) right

-- a run with a lead cell isn't at the first column
lead_right : (coloured : Bool) (col : ℕ) → (coloured && nat_lt 0 col) ≡ true → 1 ≤ col
lead_right true col is = grind (arith, nat_tests)
lead_right false col is = cc

-- the cells of a run are those that its codes write
cells_is : (g : Grid) (row col : ℕ) (style : Style) (text : List ℕ)
    → with_text (led (is_upright_white style) (col == 0) g row col style) row col style text ≡ with_run (run_of row col style text) g
cells_is g row col style text =
    let lead : Bool = has_lead (run_of row col style text) in
    sym
    (fun_ext (λ r. fun_ext (λ c. cells_at lead g row col style text r c (lead_right (is_coloured (Line21 style)) col)))
    ∙ ap (λ x. with_text x row col style text) (led_is (is_upright_white style) (col == 0) lead g row col style (lead_is row col style text)))

-- a run with this pen
abbrev run_with : Pen → ℕ → ℕ → List ℕ → Run
run_with pen row col text = record { row = row; col = col; pen = pen; text = text; colors = None }

-- the codes of a run of its parts
run_by_pen : (pen : Pen) (row col : ℕ) (text : List ℕ) (k : Captions) (o : Grid) (b : ℕ) (g : Grid) (p : PenState)
    → IsLine21Run (run_with pen row col text) → IsHeld k b g row
    → does_all (run_codes (run_with pen row col text)) (canvas k o b g p)
    ≡ canvas k o b (with_run (run_with pen row col text) g)
    (pen_behind pen (run_with pen row col text) p)
run_by_pen (Line21 style) row col text k o b g p formed held =
    let start : Grid = led (is_upright_white style) (col == 0) g row col style in
    does_all-append (approach row col style) (text_codes text) (canvas k o b g p)
    ∙ ap (does_all (text_codes text))
    (approach_at (is_upright_white style) (col == 0) k o b g p row col style refl refl held formed.col formed.pen)
    ∙ text_on text k o b start row col style formed.coded formed.fits
    ∙ ap (λ x. canvas k o b x (pen_at row (col + length text) style)) (cells_is g row col style text)
run_by_pen (Dtv italic underline) row col text k o b g p formed held = absurd formed.pen

-- a line 21 run has no colours of its own
run_is : (run : Run) → run.colors ≡ None → run ≡ run_with run.pen run.row run.col run.text
run_is run none = ap (λ colors. record run { colors = colors }) none

-- the codes of a run write it
pub run_on : (run : Run) (k : Captions) (o : Grid) (b : ℕ) (g : Grid) (p : PenState) → IsLine21Run run → IsHeld k b g run.row
    → does_all (run_codes run) (canvas k o b g p) ≡ canvas k o b (with_run run g) (pen_behind run.pen run p)
run_on run k o b g p formed held =
    let same : run ≡ run_with run.pen run.row run.col run.text = run_is run formed.colors in
    rw same (run_by_pen run.pen run.row run.col run.text k o b g p (rw (← same) formed) held)
