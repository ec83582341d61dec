-- Believed: the program's answer stands on these definitions.
-- What characters and editing codes do to the memory that a mode writes: pop-on captions are
-- written into the hidden memory, paint-on and roll-up captions into the displayed one
-- (CTA-608-E and 47 CFR 79.101). The pen at column 32 is this project's own choice throughout.
use Rattle.std.specs.Prelude.{ℕ, ◌-◌, ◌==◌, max, if◌then◌else◌, Option, Some, None}
use Rattle.line21_codes.specs.declared.styles.Style.{Style}
use Rattle.line21_codes.specs.declared.styles.Cell.{Cell}
use Rattle.line21_screen.specs.declared.modes.Mode.{Mode}
use Rattle.line21_screen.specs.declared.modes.Mode.TheVariants.{PopOn, PaintOn, RollUp}
use Rattle.line21_screen.specs.Grid.{Grid, with_cell, without_cells}
use Rattle.line21_screen.specs.Windows.{moved, rolled}
use Rattle.line21_screen.specs.Pens.{PenState, pen_at_row, at_column, advanced, print_column}
use Rattle.line21_screen.specs.Channels.{ChannelState}

-- the hidden memory after an edit in a mode
abbrev pub edited_hidden : Mode → (Grid → Grid) → Grid → Grid
edited_hidden PopOn edit g = edit g
edited_hidden _ edit g = g

-- the displayed memory after an edit in a mode
abbrev pub edited_displayed : Mode → (Grid → Grid) → Grid → Grid
edited_displayed PaintOn edit g = edit g
edited_displayed (RollUp rows) edit g = edit g
edited_displayed _ edit g = g

-- the memory that the mode writes is edited
abbrev pub edited : (Grid → Grid) → ChannelState → ChannelState
edited edit s = record s {
  displayed = edited_displayed s.mode edit s.displayed;
  hidden = edited_hidden s.mode edit s.hidden;
}

-- the pen is another
abbrev pub with_pen : PenState → ChannelState → ChannelState
with_pen pen s = record s { pen = pen }

-- a cell is written at the pen, or removed by the transparent space, and the pen moves on
abbrev pub with_cell_at_pen : Option Cell → ChannelState → ChannelState
with_cell_at_pen cell s =
    with_pen (advanced s.pen) (edited (λ g. with_cell g s.pen.row (print_column s.pen) cell) s)

-- a character in the pen's style
abbrev pub printed : ℕ → ChannelState → ChannelState
printed ch s = with_cell_at_pen (Some (record { ch = ch; style = s.pen.style })) s

-- a special character; the transparent space is none, and removes the cell
abbrev pub special : Option ℕ → ChannelState → ChannelState
special (Some ch) s = printed ch s
special None s = with_cell_at_pen None s

-- backspace: the pen moves left by one, and that cell is removed; at column 0 nothing happens
abbrev pub backspaced : ChannelState → ChannelState
backspaced s =
    if s.pen.col == 0 then s
    else with_pen (at_column (s.pen.col - 1) s.pen)
    (edited (λ g. with_cell g s.pen.row (s.pen.col - 1) None) s)

-- an extended character takes back the basic character before it, which stands in for it at
-- receivers that lack the extended sets
abbrev pub extended : Option ℕ → ChannelState → ChannelState
extended (Some ch) s = printed ch (backspaced s)
extended None s = s

-- delete to end of row: the cells from the pen on are removed
abbrev pub row_deleted : ChannelState → ChannelState
row_deleted s = edited (λ g. without_cells g s.pen.row s.pen.col 32) s

-- carriage return: in roll-up captions the window rolls up, and the pen stands at the beginning of
-- the empty base row (plain white, which is this project's own choice); else nothing happens
abbrev pub carriage_return : Mode → ChannelState → ChannelState
carriage_return (RollUp rows) s = record s {
  displayed = rolled s.displayed rows s.base;
  pen = pen_at_row s.base;
}
carriage_return _ s = s

-- a preamble sets the pen; in roll-up captions the window moves to the row, or to the highest base
-- row that leaves room for it, and the pen stands on the base row
abbrev pub addressed : Mode → ℕ → ℕ → Style → ChannelState → ChannelState
addressed (RollUp rows) row col style s = record s {
  displayed = moved s.displayed rows s.base (max row rows);
  base = max row rows;
  pen = record { row = max row rows; col = col; style = style };
}
addressed _ row col style s = with_pen (record { row = row; col = col; style = style }) s
