-- Believed: the program's answer stands on these definitions.
-- What characters and the codes that move the pen do to a window (CTA-708-E, the C0 codes and SetPenLocation).
-- Characters go from left to right, whatever the print direction, which is this project's own choice.
use Rattle.std.specs.Prelude.{ℕ, ◌+◌, ◌-◌, ◌==◌, min, if◌then◌else◌, Option, Some, None}
use Rattle.dtvcc_windows.specs.declared.cells.DCell.{DCell}
use Rattle.dtvcc_windows.specs.Places.{no_cells, window_rolled, with_window_cell, without_row}
use Rattle.dtvcc_windows.specs.Windows.{WindowState}

-- a character in the pen's attributes and colours; the transparent space has no cell
abbrev pub inked : Option ℕ → WindowState → Option DCell
inked (Some ch) w = Some (record { ch = ch; pen = w.pen; colors = w.colors })
inked None w = None

-- a character is written at the pen, or the transparent space removes the cell there, and the pen moves one
-- column right; past the last column it is dropped (for the last, this project's own choice)
abbrev pub with_character : Option ℕ → WindowState → WindowState
with_character ch w =
    if w.col == w.definition.cols then w
    else record w { cells = with_window_cell w.cells w.row w.col (inked ch w); col = w.col + 1 }

-- BS: the pen moves left by one, and that cell is removed; at column 0 nothing happens
abbrev pub window_backspaced : WindowState → WindowState
window_backspaced w =
    if w.col == 0 then w
    else record w { cells = with_window_cell w.cells w.row (w.col - 1) None; col = w.col - 1 }

-- FF: all cells are removed, and the pen goes to row 0, column 0
abbrev pub form_fed : WindowState → WindowState
form_fed w = record w { cells = no_cells; row = 0; col = 0 }

-- CR: the pen goes to the beginning of the next row; from the last row it can't, so all rows move up by one
abbrev pub carriage_returned : WindowState → WindowState
carriage_returned w =
    if w.row + 1 == w.definition.rows then record w { cells = window_rolled w.definition.rows w.cells; col = 0 }
    else record w { row = w.row + 1; col = 0 }

-- HCR: the cells of the pen's row are removed, and the pen goes to its beginning
abbrev pub row_returned : WindowState → WindowState
row_returned w = record w { cells = without_row w.cells w.row; col = 0 }

-- SetPenLocation: the pen goes to a row and a column, each the last one at most (for the limit, this
-- project's own choice)
abbrev pub located : ℕ → ℕ → WindowState → WindowState
located row col w =
    record w { row = min row (w.definition.rows - 1); col = min col (w.definition.cols - 1) }

-- ClearWindows: all cells are removed, and the pen stays (CTA-708-E, CLW; that it stays is this project's own choice)
abbrev pub cleared : WindowState → WindowState
cleared w = record w { cells = no_cells }
