-- The three ways of writing captions as one: what single codes do to the memory that is written and to the pen.
use Rattle.std.proofs.Common.{◌≡◌, ℕ, ◌+◌, ◌-◌, ◌<◌, ◌≤◌, ◌==◌, ◌&&◌, ◌||◌, max, min, Bool, true, false, if◌then◌else◌, Option, Some, None, refl, sym, ap, ◌∙◌, arith}
use Rattle.std.proofs.Math.Path.{fun_ext}
use Rattle.std.proofs.lemmas.Bool.Decides.{nat_tests}
use Rattle.line21_codes.specs.declared.codes.Control.{Control as ControlCode}
use Rattle.line21_codes.specs.declared.codes.Control.TheVariants.{Tab, MidRow, Preamble, Special, Extended}
use Rattle.line21_codes.specs.declared.styles.Cell.{Cell}
use Rattle.line21_codes.specs.declared.styles.Colour.{Colour}
use Rattle.line21_codes.specs.declared.styles.Style.{Style}
use Rattle.line21_codes.specs.SpecialCharacters.{special_of}
use Rattle.line21_codes.specs.ExtendedCharacters.{extended_of}
use Rattle.frame_scheduler.specs.FirstChannel.{first_channel}
use Rattle.line21_screen.specs.declared.modes.Mode.TheVariants.{PopOn, PaintOn, RollUp}
use Rattle.line21_screen.specs.Channels.{ChannelState}
use Rattle.line21_screen.specs.Controls.{acts_always, acted, after_control}
use Rattle.line21_screen.specs.Editing.{printed, special, backspaced, extended}
use Rattle.line21_screen.specs.Fields.{after_character}
use Rattle.line21_screen.specs.Grid.{Grid, with_cell}
use Rattle.line21_screen.specs.Pens.{PenState, mid_row_style}
use Rattle.line21_screen.specs.Windows.{in_window, moved, IsWithin}
use Rattle.line21_shown.specs.Doing.{does}

-- the ways of writing captions
pub data Captions : Type 0 where
  pop_on : Captions
  paint_on : Captions
  roll_up : ℕ → Captions

-- a channel that writes captions: by the memory that isn't written, the base row, the memory that is written and the pen
abbrev pub canvas : Captions → Grid → ℕ → Grid → PenState → ChannelState
canvas pop_on o b g p = record { displayed = o; hidden = g; mode = PopOn; base = b; text = false; pen = p }
canvas paint_on o b g p = record { displayed = g; hidden = o; mode = PaintOn; base = b; text = false; pen = p }
canvas (roll_up rows) o b g p = record { displayed = g; hidden = o; mode = RollUp rows; base = b; text = false; pen = p }

-- a pen of its parts
abbrev pub pen_at : ℕ → ℕ → Style → PenState
pen_at row col style = record { row = row; col = col; style = style }

-- the cell of a character in a style
abbrev pub cell_of : ℕ → Style → Option Cell
cell_of ch style = Some (record { ch = ch; style = style })

-- a character takes the cell at the pen, which moves on
pub printed_on : (k : Captions) (o : Grid) (b : ℕ) (g : Grid) (row col : ℕ) (style : Style) (ch : ℕ) → col < 32
    → printed ch (canvas k o b g (pen_at row col style)) ≡ canvas k o b (with_cell g row col (cell_of ch style)) (pen_at row (col + 1) style)
printed_on pop_on o b g row col style ch below =
    let here : min col 31 ≡ col = omega arith in
    let next : min (col + 1) 32 ≡ col + 1 = omega arith in rw (here, next) refl
printed_on paint_on o b g row col style ch below =
    let here : min col 31 ≡ col = omega arith in
    let next : min (col + 1) 32 ≡ col + 1 = omega arith in rw (here, next) refl
printed_on (roll_up rows) o b g row col style ch below =
    let here : min col 31 ≡ col = omega arith in
    let next : min (col + 1) 32 ≡ col + 1 = omega arith in rw (here, next) refl

-- a character of a text pair is printed
character_prints : (k : Captions) (o : Grid) (b : ℕ) (g : Grid) (p : PenState) (ch : ℕ)
    → after_character (Some ch) (canvas k o b g p) ≡ printed ch (canvas k o b g p)
character_prints pop_on o b g p ch = refl
character_prints paint_on o b g p ch = refl
character_prints (roll_up rows) o b g p ch = refl

-- and takes its cell
pub character_on : (k : Captions) (o : Grid) (b : ℕ) (g : Grid) (row col : ℕ) (style : Style) (ch : ℕ) (shown : Option ℕ)
    → shown ≡ Some ch → col < 32
    → after_character shown (canvas k o b g (pen_at row col style)) ≡ canvas k o b (with_cell g row col (cell_of ch style)) (pen_at row (col + 1) style)
character_on k o b g row col style ch shown is below =
    ap (λ x. after_character x (canvas k o b g (pen_at row col style))) is
    ∙ character_prints k o b g (pen_at row col style) ch ∙ printed_on k o b g row col style ch below

-- a test that a code acts passes where captions are written
acts_at : (always : Bool) (x y : ChannelState) → (if always || true then x else y) ≡ x
acts_at true x y = refl
acts_at false x y = refl

-- a control code acts
pub control_on : (k : Captions) (o : Grid) (b : ℕ) (g : Grid) (p : PenState) (control : ControlCode)
    → after_control control (canvas k o b g p) ≡ acted control (canvas k o b g p)
control_on pop_on o b g p control = acts_at (acts_always control) (acted control (canvas pop_on o b g p)) (canvas pop_on o b g p)
control_on paint_on o b g p control = acts_at (acts_always control) (acted control (canvas paint_on o b g p)) (canvas paint_on o b g p)
control_on (roll_up rows) o b g p control =
    acts_at (acts_always control) (acted control (canvas (roll_up rows) o b g p)) (canvas (roll_up rows) o b g p)

-- a special character takes its cell
pub special_on : (k : Captions) (o : Grid) (b : ℕ) (g : Grid) (row col : ℕ) (style : Style) (ch byte : ℕ)
    → special_of byte ≡ Some ch → col < 32
    → does (first_channel (Special byte)) (canvas k o b g (pen_at row col style))
    ≡ canvas k o b (with_cell g row col (cell_of ch style)) (pen_at row (col + 1) style)
special_on k o b g row col style ch byte is below =
    control_on k o b g (pen_at row col style) (Special byte)
    ∙ ap (λ x. special x (canvas k o b g (pen_at row col style))) is ∙ printed_on k o b g row col style ch below

-- backspace removes the cell before the pen
backspaced_on : (k : Captions) (o : Grid) (b : ℕ) (g : Grid) (row col : ℕ) (style : Style)
    → backspaced (canvas k o b g (pen_at row (col + 1) style)) ≡ canvas k o b (with_cell g row col None) (pen_at row col style)
backspaced_on pop_on o b g row col style =
    let some : (col + 1 == 0) ≡ false = grind (arith, nat_tests) in
    let back : col + 1 - 1 ≡ col = omega arith in rw (some, back) refl
backspaced_on paint_on o b g row col style =
    let some : (col + 1 == 0) ≡ false = grind (arith, nat_tests) in
    let back : col + 1 - 1 ≡ col = omega arith in rw (some, back) refl
backspaced_on (roll_up rows) o b g row col style =
    let some : (col + 1 == 0) ≡ false = grind (arith, nat_tests) in
    let back : col + 1 - 1 ≡ col = omega arith in rw (some, back) refl

-- of two cells at one place the later one stands
later_choice : (b : Bool) (x y z : Option Cell) → (if b then y else (if b then x else z)) ≡ (if b then y else z)
later_choice true x y z = refl
later_choice false x y z = refl

later_cell : (g : Grid) (row col : ℕ) (x y : Option Cell) → with_cell (with_cell g row col x) row col y ≡ with_cell g row col y
later_cell g row col x y = fun_ext (λ r. fun_ext (λ c. later_choice (r == row && c == col) x y (g r c)))

-- an extended character takes the cell of its fallback
pub extended_on : (k : Captions) (o : Grid) (b : ℕ) (g : Grid) (row col : ℕ) (style : Style) (fallback ch set byte : ℕ)
    → extended_of set byte ≡ Some ch → col < 32
    → does (first_channel (Extended set byte)) (canvas k o b (with_cell g row col (cell_of fallback style)) (pen_at row (col + 1) style))
    ≡ canvas k o b (with_cell g row col (cell_of ch style)) (pen_at row (col + 1) style)
extended_on k o b g row col style fallback ch set byte is below =
    let shown : Grid = with_cell g row col (cell_of fallback style) in
    let s : ChannelState = canvas k o b shown (pen_at row (col + 1) style) in
    let once : with_cell shown row col None ≡ with_cell g row col None = later_cell g row col (cell_of fallback style) None in
    let twice : with_cell (with_cell g row col None) row col (cell_of ch style) ≡ with_cell g row col (cell_of ch style) =
    later_cell g row col None (cell_of ch style) in
    control_on k o b shown (pen_at row (col + 1) style) (Extended set byte)
    ∙ ap (λ x. extended x s) is
    ∙ ap (printed ch) (backspaced_on k o b shown row col style)
    ∙ ap (λ x. printed ch (canvas k o b x (pen_at row col style))) once
    ∙ printed_on k o b (with_cell g row col None) row col style ch below
    ∙ ap (λ x. canvas k o b x (pen_at row (col + 1) style)) twice

-- a tab offset moves the pen
tab_acts : (k : Captions) (o : Grid) (b : ℕ) (g : Grid) (row col : ℕ) (style : Style) (columns : ℕ) → col + columns ≤ 31
    → acted (Tab columns) (canvas k o b g (pen_at row col style)) ≡ canvas k o b g (pen_at row (col + columns) style)
tab_acts pop_on o b g row col style columns below =
    let within : (col == 32) ≡ false = grind (arith, nat_tests) in
    let next : min (col + columns) 31 ≡ col + columns = omega arith in rw (within, next) refl
tab_acts paint_on o b g row col style columns below =
    let within : (col == 32) ≡ false = grind (arith, nat_tests) in
    let next : min (col + columns) 31 ≡ col + columns = omega arith in rw (within, next) refl
tab_acts (roll_up rows) o b g row col style columns below =
    let within : (col == 32) ≡ false = grind (arith, nat_tests) in
    let next : min (col + columns) 31 ≡ col + columns = omega arith in rw (within, next) refl

pub tab_on : (k : Captions) (o : Grid) (b : ℕ) (g : Grid) (row col : ℕ) (style : Style) (columns : ℕ) → col + columns ≤ 31
    → does (first_channel (Tab columns)) (canvas k o b g (pen_at row col style)) ≡ canvas k o b g (pen_at row (col + columns) style)
tab_on k o b g row col style columns below =
    control_on k o b g (pen_at row col style) (Tab columns) ∙ tab_acts k o b g row col style columns below

-- another style
styled_on : (k : Captions) (o : Grid) (b : ℕ) (g : Grid) (row col : ℕ) (style : Style) (colour : Option Colour) (underline : Bool)
    → acted (MidRow colour underline) (canvas k o b g (pen_at row col style))
    ≡ printed 0x20 (canvas k o b g (pen_at row col (mid_row_style colour underline style)))
styled_on pop_on o b g row col style colour underline = refl
styled_on paint_on o b g row col style colour underline = refl
styled_on (roll_up rows) o b g row col style colour underline = refl

-- a mid-row code takes a cell, which shows a space in the new style
pub mid_row_on : (k : Captions) (o : Grid) (b : ℕ) (g : Grid) (row col : ℕ) (style : Style) (colour : Option Colour) (underline : Bool) → col < 32
    → does (first_channel (MidRow colour underline)) (canvas k o b g (pen_at row col style))
    ≡ canvas k o b (with_cell g row col (cell_of 0x20 (mid_row_style colour underline style))) (pen_at row (col + 1) (mid_row_style colour underline style))
mid_row_on k o b g row col style colour underline below =
    control_on k o b g (pen_at row col style) (MidRow colour underline)
    ∙ styled_on k o b g row col style colour underline
    ∙ printed_on k o b g row col (mid_row_style colour underline style) 0x20 below

-- a window of roll-up captions on a base row, with room for its rows; no cell stands outside of it
pub record IsWindow (rows base row : ℕ) (g : Grid) : Type 0 where
  pub on_base : base ≡ row
  pub some : 1 ≤ rows
  pub room : rows ≤ row
  pub within : IsWithin g rows row

-- a row is held for a run: in roll-up captions it is the base row
abbrev pub IsHeld : Captions → ℕ → Grid → ℕ → Type 0
IsHeld pop_on b g row = Unit {0}
IsHeld paint_on b g row = Unit {0}
IsHeld (roll_up rows) b g row = IsWindow rows b row g

-- a window that moves to its own base row stays as it is
still_at : (inside : Bool) (g : Grid) (row r c : ℕ) → (inside ≡ false → g r c ≡ None)
    → (if inside then g (r + row - row) c else None) ≡ g r c
still_at true g row r c none = let same : r + row - row ≡ r = omega arith in rw same refl
still_at false g row r c none = sym (none refl)

pub moved_still : (g : Grid) (rows row : ℕ) → IsWithin g rows row → moved g rows row row ≡ g
moved_still g rows row within = fun_ext (λ r. fun_ext (λ c. still_at (in_window rows row r) g row r c (within r c)))

-- a preamble sets the pen
addressed_on : (k : Captions) (o : Grid) (b : ℕ) (g : Grid) (p : PenState) (row col : ℕ) (style : Style) → IsHeld k b g row
    → acted (Preamble row col style) (canvas k o b g p) ≡ canvas k o b g (pen_at row col style)
addressed_on pop_on o b g p row col style held = refl
addressed_on paint_on o b g p row col style held = refl
addressed_on (roll_up rows) o b g p row col style held =
    let room : rows ≤ row = held.room in
    let same : max row rows ≡ row = omega arith in
    let base : b ≡ row = held.on_base in
    rw (same, base) (ap (λ x. canvas (roll_up rows) o row x (pen_at row col style)) (moved_still g rows row held.within))

pub preamble_on : (k : Captions) (o : Grid) (b : ℕ) (g : Grid) (p : PenState) (row col : ℕ) (style : Style) → IsHeld k b g row
    → does (first_channel (Preamble row col style)) (canvas k o b g p) ≡ canvas k o b g (pen_at row col style)
preamble_on k o b g p row col style held =
    control_on k o b g p (Preamble row col style) ∙ addressed_on k o b g p row col style held
