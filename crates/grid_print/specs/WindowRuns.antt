-- Believed in part: the program's answer stands on some of these definitions.
-- The runs of a window: by row, then column, the longest stretches of neighbouring cells of one row with one pen and the same
-- colours.
use Rattle.std.specs.Prelude.{ℕ, List}
use Rattle.std.specs.List.{flat_map, range_with_len}
use Rattle.grid_print.specs.CellRuns.{Run, row_runs}
use Rattle.grid_print.specs.RunsOf.{Places}
use Rattle.grid_print.specs.Writing.{in_pens}
use Rattle.dtvcc_windows.specs.declared.cells.DCell.{DCell}
use Rattle.dtvcc_windows.specs.Places.{window_row}
use Rattle.dtvcc_windows.specs.Showing.{ShownWindow}
use Rattle.dtvcc_windows.specs.Sizes.{in_size}

-- the places of a window, and the cells there
abbrev pub places : ShownWindow → Places DCell
places window = record { inside = in_size window.rows window.cols; cell = window.cells }

-- the runs of a row of a window
abbrev pub runs_in : ShownWindow → ℕ → List (Run DCell)
runs_in window row = row_runs in_pens row (window_row window.cells window.cols row)

-- the runs of a window
unfoldable pub window_runs : ShownWindow → List (Run DCell)
window_runs window = flat_map (λ row. row_runs in_pens row (window_row window.cells window.cols row)) (range_with_len 0 window.rows)
