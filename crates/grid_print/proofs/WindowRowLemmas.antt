-- Steps along the rows of a window, of which those without a cell have no runs.
use Rattle.std.proofs.Common.{◌≡◌, Bool, true, false, if◌then◌else◌, Some, IfSome, ℕ, ◌+◌, ◌-◌, ◌<◌, ◌≤◌, List, [], Option, None, get_or, length, refl, ap, ◌∙◌, arith, inl, inr}
use Rattle.std.proofs.lemmas.Bool.{cases_lt}
use Rattle.std.proofs.lemmas.List.{get_or_past}
use Rattle.std.proofs.lemmas.List.FromFn.{get_or-map-range_with_len, length-map-range_with_len}
use Rattle.std.specs.List.{flat_map, range_with_len}
use Rattle.grid_print.specs.CellRuns.{Run}
use Rattle.grid_print.specs.Writing.{in_pens}
use Rattle.grid_print.proofs.CellRowLemmas.{empty_row, nothing_more, nothing_of_each}
use Rattle.dtvcc_windows.specs.declared.cells.DCell.{DCell}
use Rattle.dtvcc_windows.specs.declared.window.Window.{Window}
use Rattle.dtvcc_windows.specs.Objects.{is_live, state_of, window_of}
use Rattle.dtvcc_windows.specs.Places.{Cells, window_row}
use Rattle.dtvcc_windows.specs.Showing.{ShownWindow}
use Rattle.dtvcc_windows.specs.Windows.{WindowState}
use Rattle.grid_print.specs.WindowRuns.{runs_in, window_runs}

-- what stands at a column of a row's list
pub cell_in_row : (cells : Cells) (cols row col : ℕ) → col < cols → get_or (window_row cells cols row) col None ≡ cells row col
unfolding window_row
cell_in_row cells cols row col within = get_or-map-range_with_len (cells row) 0 cols col col None within (omega arith)

-- a row's list is as long as the row
pub length-row_cells : (cells : Cells) (cols row : ℕ) → length (window_row cells cols row) ≡ cols
unfolding window_row
length-row_cells cells cols row = length-map-range_with_len (cells row) 0 cols

-- nothing stands at a column of a row without a cell
nothing_at : (cells : Cells) (cols row : ℕ) → ((col : ℕ) → cells row col ≡ None) → (col : ℕ) → get_or (window_row cells cols row) col None ≡ None
nothing_at cells cols row none col = elim (cases_lt col cols) [
  | inl within ↦ cell_in_row cells cols row col within ∙ none col
  | inr past ↦ get_or_past (window_row cells cols row) col None (omega (arith, past, length-row_cells cells cols row))
]

-- a row without a cell has no run
no_runs_in : (window : ShownWindow) (row : ℕ) → ((col : ℕ) → window.cells row col ≡ None) → runs_in window row ≡ []
no_runs_in window row none = empty_row in_pens row (window_row window.cells window.cols row) (nothing_at window.cells window.cols row none)

-- nothing comes of the rows before the first that can have a cell
pub nothing_before : {X : Type 0} (f : List (Run DCell) → List X) (window : ShownWindow) (start : ℕ) → f [] ≡ [] → ((row col : ℕ) → row < start → window.cells row col ≡ None)
    → flat_map (λ row. f (runs_in window row)) (range_with_len 0 start) ≡ []
nothing_before f window start nil none =
    nothing_of_each (λ row. f (runs_in window row)) 0 start (λ k from to. ap f (no_runs_in window k (λ col. none k col (omega arith))) ∙ nil)

-- and nothing of those from the last on
pub nothing_behind : {X : Type 0} (f : List (Run DCell) → List X) (window : ShownWindow) (behind : ℕ) → f [] ≡ [] → behind ≤ window.rows
    → ((row col : ℕ) → behind ≤ row → window.cells row col ≡ None)
    → flat_map (λ row. f (runs_in window row)) (range_with_len 0 behind) ≡ flat_map (λ row. f (runs_in window row)) (range_with_len 0 window.rows)
nothing_behind f window behind nil to none =
    let all : behind + (window.rows - behind) ≡ window.rows = omega arith in
    nothing_more (λ row. f (runs_in window row)) 0 behind (window.rows - behind) (λ k past. ap f (no_runs_in window k (λ col. none k col (omega arith))) ∙ nil)
    ∙ ap (λ n. flat_map (λ row. f (runs_in window row)) (range_with_len 0 n)) all

-- the runs of a window are its rows' runs
pub runs_by_rows : (window : ShownWindow) → window_runs window ≡ flat_map (runs_in window) (range_with_len 0 window.rows)
unfolding window_runs
runs_by_rows window = refl

-- what a clause says of a window that is live
pub at_live : (window : Window) (P : WindowState → Type 0) → is_live window ≡ true → IfSome (window_of window) P → P (state_of window)
at_live window P live is = at window.live live is where
  at : (b : Bool) → b ≡ true → IfSome (if b then Some (state_of window) else None) P → P (state_of window)
  at true live is = is
  at false live is = cc

-- a row of a window has at most 64 places
pub short_row : (window : WindowState) (row : ℕ) (cells : List (Option DCell)) → cells ≡ window_row window.cells window.definition.cols row
    → window.definition.cols ≤ 64 → length cells ≤ 64
short_row window row cells is most =
    let long : length cells ≡ window.definition.cols = ap (λ (xs : List (Option DCell)). length xs) is ∙ length-row_cells window.cells window.definition.cols row in
    omega (arith, long, most)
