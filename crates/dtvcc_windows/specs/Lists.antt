-- Believed: the library's answers stand on these definitions.
-- A list of cells, row by row, as a map of a window's cells.
use Rattle.std.specs.Prelude.{ℕ, ◌+◌, ◌*◌, if◌then◌else◌, List, Option, None, slice_index_or}
use Rattle.dtvcc_windows.specs.declared.cells.DCell.{DCell}
use Rattle.dtvcc_windows.specs.Places.{Cells}
use Rattle.dtvcc_windows.specs.Sizes.{in_size}

-- the place of a row and a column in a list of 16 rows of 64 columns
abbrev pub place : ℕ → ℕ → ℕ
place row col = row * 64 + col

-- the cells of such a list
unfoldable pub listed_cells : List (Option DCell) → Cells
listed_cells places row col = if in_size 16 64 row col then slice_index_or places (place row col) None else None
