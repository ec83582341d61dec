-- Steps along the rows of a grid, of which those without a cell have no runs.
use Rattle.std.proofs.Common.{◌≡◌, ℕ, ◌+◌, ◌-◌, ◌<◌, ◌≤◌, List, [], None, get_or, length, refl, ap, ◌∙◌, arith, inl, inr}
use Rattle.std.proofs.lemmas.Bool.{cases_lt}
use Rattle.std.proofs.lemmas.List.{get_or_past}
use Rattle.std.proofs.lemmas.List.FromFn.{get_or-map-range_with_len, length-map-range_with_len}
use Rattle.std.specs.List.{flat_map, range_with_len}
use Rattle.grid_print.specs.CellRuns.{Run}
use Rattle.grid_print.specs.Writing.{in_styles}
use Rattle.grid_print.proofs.CellRowLemmas.{empty_row, nothing_more, nothing_of_each}
use Rattle.line21_codes.specs.declared.styles.Cell.{Cell}
use Rattle.line21_screen.specs.Grid.{Grid, row_cells, rows}
use Rattle.grid_print.specs.Runs.{runs, runs_in}

-- what stands at a column of a row's list
pub cell_in_row : (grid : Grid) (row col : ℕ) → col < 32 → get_or (row_cells grid row) col None ≡ grid row col
unfolding row_cells
cell_in_row grid row col within = get_or-map-range_with_len (grid row) 0 32 col col None within (omega arith)

-- a row's list is as long as the row
pub length-row_cells : (grid : Grid) (row : ℕ) → length (row_cells grid row) ≡ 32
unfolding row_cells
length-row_cells grid row = length-map-range_with_len (grid row) 0 32

-- nothing stands at a column of a row without a cell
nothing_at : (grid : Grid) (row : ℕ) → ((col : ℕ) → grid row col ≡ None) → (col : ℕ) → get_or (row_cells grid row) col None ≡ None
nothing_at grid row none col = elim (cases_lt col 32) [
  | inl within ↦ cell_in_row grid row col within ∙ none col
  | inr past ↦ get_or_past (row_cells grid row) col None (omega (arith, past, length-row_cells grid row))
]

-- a row without a cell has no run
no_runs_in : (grid : Grid) (row : ℕ) → ((col : ℕ) → grid row col ≡ None) → runs_in grid row ≡ []
no_runs_in grid row none = empty_row in_styles row (row_cells grid row) (nothing_at grid row none)

-- nothing comes of the rows before the first that can have a cell
pub nothing_before : {X : Type 0} (f : List (Run Cell) → List X) (grid : Grid) (start : ℕ) → f [] ≡ [] → ((row col : ℕ) → row < start → grid row col ≡ None)
    → flat_map (λ row. f (runs_in grid row)) (range_with_len 1 (start - 1)) ≡ []
nothing_before f grid start nil none =
    nothing_of_each (λ row. f (runs_in grid row)) 1 (start - 1) (λ k from to. ap f (no_runs_in grid k (λ col. none k col (omega arith))) ∙ nil)

-- and nothing of those from the last on
pub nothing_behind : {X : Type 0} (f : List (Run Cell) → List X) (grid : Grid) (behind : ℕ) → f [] ≡ [] → 1 ≤ behind → behind ≤ 16 → ((row col : ℕ) → behind ≤ row → grid row col ≡ None)
    → flat_map (λ row. f (runs_in grid row)) (range_with_len 1 (behind - 1)) ≡ flat_map (λ row. f (runs_in grid row)) rows
nothing_behind f grid behind nil from to none =
    let all : behind - 1 + (16 - behind) ≡ 15 = omega arith in
    nothing_more (λ row. f (runs_in grid row)) 1 (behind - 1) (16 - behind) (λ k past. ap f (no_runs_in grid k (λ col. none k col (omega arith))) ∙ nil)
    ∙ ap (λ n. flat_map (λ row. f (runs_in grid row)) (range_with_len 1 n)) all

-- the runs of a grid are its rows' runs
pub runs_by_rows : (grid : Grid) → runs grid ≡ flat_map (runs_in grid) rows
unfolding runs
runs_by_rows grid = refl
