-- Believed in part: the program's answer stands on some of these definitions.
-- The cells of a caption window as a map: what stands at each row and column, both counted from 0
-- (CTA-708-E, caption windows).
use Rattle.std.specs.Prelude.{ℕ, ◌+◌, ◌==◌, ◌&&◌, nat_lt, nat_le, if◌then◌else◌, List, Option, None, map}
use Rattle.std.specs.List.{range_with_len}
use Rattle.dtvcc_windows.specs.declared.cells.DCell.{DCell}

-- the cell at a row and a column, where there is one
abbrev pub Cells : Type 0
Cells = ℕ → ℕ → Option DCell

-- no cell at all
abbrev pub no_cells : Cells
no_cells row col = None

-- one cell is written, or removed
abbrev pub with_window_cell : Cells → ℕ → ℕ → Option DCell → Cells
with_window_cell cells row col cell r c = if r == row && c == col then cell else cells r c

-- the cells of a row from a column on are removed
abbrev pub without_cells : Cells → ℕ → ℕ → Cells
without_cells cells row from r c = if r == row && nat_le from c then None else cells r c

-- the cells of a row are removed
abbrev pub without_row : Cells → ℕ → Cells
without_row cells row r c = if r == row then None else cells r c

-- all rows move up by one, and the top one is lost
abbrev pub raised : Cells → Cells
raised cells r c = cells (r + 1) c

-- the same in a window of this many rows, of which the last is then empty
abbrev pub window_rolled : ℕ → Cells → Cells
window_rolled rows cells r c = if nat_lt (r + 1) rows then cells (r + 1) c else None

-- what stands in the first columns of a row, column by column
unfoldable pub window_row : Cells → ℕ → ℕ → List (Option DCell)
window_row cells cols row = map (cells row) (range_with_len 0 cols)
