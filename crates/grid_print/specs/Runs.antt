-- Believed in part: the program's answer stands on some of these definitions.
-- The runs of a grid: by row, then column, the longest stretches of neighbouring cells of one row with one style.
use Rattle.std.specs.Prelude.{ℕ, List}
use Rattle.std.specs.List.{flat_map}
use Rattle.grid_print.specs.CellRuns.{Run, row_runs}
use Rattle.grid_print.specs.RunsOf.{Places}
use Rattle.grid_print.specs.Writing.{in_styles}
use Rattle.line21_codes.specs.declared.styles.Cell.{Cell}
use Rattle.line21_screen.specs.Grid.{Grid, in_grid, row_cells, rows}

-- the places of a grid, and the cells there
abbrev pub places : Grid → Places Cell
places grid = record { inside = in_grid; cell = grid }

-- the runs of a row of a grid
abbrev pub runs_in : Grid → ℕ → List (Run Cell)
runs_in grid row = row_runs in_styles row (row_cells grid row)

-- the runs of a grid
unfoldable pub runs : Grid → List (Run Cell)
runs grid = flat_map (λ row. row_runs in_styles row (row_cells grid row)) rows
