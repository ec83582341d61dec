-- The runs of a grid are the longest stretches of neighbouring cells of one row with one style.
use Rattle.std.proofs.Common.{◌≡◌, ◌↔◌, ℕ, ◌+◌, true, false, [], Option, Some, None, get_or, length, refl, arith, inl, inr}
use Rattle.std.proofs.lemmas.Bool.{cases_lt}
use Rattle.grid_print.specs.CellRuns.{Run}
use Rattle.grid_print.specs.RunsOf.{AreRunsOf}
use Rattle.grid_print.specs.Writing.{in_styles}
use Rattle.grid_print.proofs.AlikeLemmas.{styles_are_written}
use Rattle.grid_print.proofs.CellRunsOfLemmas.{AreRows, are_runs_of}
use Rattle.line21_codes.specs.declared.styles.Cell.{Cell}
use Rattle.line21_codes.specs.declared.styles.Colour.TheVariants.{White}
use Rattle.line21_screen.specs.Grid.{Grid, in_grid, row_cells}
use Rattle.line21_screen.proofs.GridLemmas.{col_to, is_inside, row_from, row_to}
use Rattle.grid_print.specs.Runs.{places, runs}
use Rattle.grid_print.proofs.RowLemmas.{cell_in_row, length-row_cells}

-- the rows of a grid
grid_rows : (grid : Grid) → AreRows (places grid) (row_cells grid) 1 15 32
grid_rows grid = record {
  long = length-row_cells grid;
  cell = cell_in_row grid;
  is_inside = λ row col from to within. is_inside row col from (omega (arith, to)) within;
  row_from = row_from;
  row_to = λ row col inside. let to = row_to row col inside in omega (arith, to);
  col_to = col_to;
}

pub runs_are_stretches : (grid : Grid) → AreRunsOf in_styles (places grid) (runs grid)
unfolding runs
runs_are_stretches grid = are_runs_of in_styles styles_are_written (places grid) (row_cells grid) 1 15 32 (grid_rows grid)

-- a grid without a run has no cell
no_cell : (grid : Grid) (row col : ℕ) (here : Option Cell) → length (runs grid) ≡ 0 → in_grid row col ≡ true → grid row col ≡ here → here ≡ None
no_cell grid row col None none inside is = refl
no_cell grid row col (Some cell) none inside is =
    let (run, (k, within, at), stands) = (runs_are_stretches grid).all row col inside (rw is refl) in absurd (omega (arith, none, within))

-- some run
blank : Run Cell
blank = record { row = 0; col = 0; first = record { ch = 0; style = record { colour = White; italic = false; underline = false } }; text = [] }

-- a grid without a cell has no run
no_runs : (grid : Grid) → ((row col : ℕ) → in_grid row col ≡ true → grid row col ≡ None) → length (runs grid) ≡ 0
no_runs grid none = elim (cases_lt 0 (length (runs grid))) [
  | inl some ↦ absurd (
      let run = (runs_are_stretches grid).each 0 blank some in
      let cell = (run.cells 0 run.some).1 in
      let nothing = none (get_or (runs grid) 0 blank).row ((get_or (runs grid) 0 blank).col + 0) (run.within 0 run.some) in cc)
  | inr empty ↦ omega arith
]

-- a grid has no run just where it has no cell
pub empty_where : (grid : Grid) → (length (runs grid) ≡ 0) ↔ ((row col : ℕ) → in_grid row col ≡ true → grid row col ≡ None)
empty_where grid = (λ none row col inside. no_cell grid row col (grid row col) none inside refl, no_runs grid)
