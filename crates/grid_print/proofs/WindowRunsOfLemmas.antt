-- The runs of a window are the longest stretches of neighbouring cells of one row with one pen and the same colours.
use Rattle.std.proofs.Common.{◌≡◌, ℕ, ◌<◌, true, arith}
use Rattle.std.proofs.lemmas.Bool.Decides.{nat_tests}
use Rattle.grid_print.specs.RunsOf.{AreRunsOf}
use Rattle.grid_print.specs.Writing.{in_pens}
use Rattle.grid_print.proofs.AlikeLemmas.{pens_are_written}
use Rattle.grid_print.proofs.CellRunsOfLemmas.{AreRows, are_runs_of}
use Rattle.dtvcc_windows.specs.Places.{window_row}
use Rattle.dtvcc_windows.specs.Showing.{ShownWindow}
use Rattle.dtvcc_windows.specs.Sizes.{in_size}
use Rattle.grid_print.specs.WindowRuns.{places, window_runs}
use Rattle.grid_print.proofs.WindowRowLemmas.{cell_in_row, length-row_cells}

-- a place of a window
place_row : (rows cols row col : ℕ) → in_size rows cols row col ≡ true → row < rows
place_row rows cols row col is = grind (arith, nat_tests)

place_col : (rows cols row col : ℕ) → in_size rows cols row col ≡ true → col < cols
place_col rows cols row col is = grind (arith, nat_tests)

is_place : (rows cols row col : ℕ) → row < rows → col < cols → in_size rows cols row col ≡ true
is_place rows cols row col in_row in_col = grind (arith, nat_tests)

-- the rows of a window
window_rows : (window : ShownWindow) → AreRows (places window) (window_row window.cells window.cols) 0 window.rows window.cols
window_rows window = record {
  long = length-row_cells window.cells window.cols;
  cell = cell_in_row window.cells window.cols;
  is_inside = λ row col from to within. is_place window.rows window.cols row col (omega (arith, to)) within;
  row_from = λ row col inside. omega arith;
  row_to = λ row col inside. let to = place_row window.rows window.cols row col inside in omega (arith, to);
  col_to = place_col window.rows window.cols;
}

pub runs_are_stretches : (window : ShownWindow) → AreRunsOf in_pens (places window) (window_runs window)
unfolding window_runs
runs_are_stretches window = are_runs_of in_pens pens_are_written (places window) (window_row window.cells window.cols) 0 window.rows window.cols (window_rows window)
