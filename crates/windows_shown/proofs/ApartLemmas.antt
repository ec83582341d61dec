-- Runs that share no cell have each the cells that they write.
use Rattle.std.proofs.Common.{◌≡◌, ℕ, ◌-◌, ◌<◌, ◌≤◌, ◌==◌, nat_lt, min, max, Bool, true, false, if◌then◌else◌, Some, None, List, [], ◌∷◌, refl, ap, ◌∙◌, arith}
use Rattle.std.specs.List.{AllByRecursion, list_any}
use Rattle.std.proofs.Math.Path.{fun_ext}
use Rattle.std.proofs.lemmas.Bool.{or_parts}
use Rattle.std.proofs.lemmas.Bool.Decides.{nat_tests}
use Rattle.dtvcc_windows.specs.Places.{Cells, no_cells}
use Rattle.cue_types.specs.Cells.{end_column, first_column, has_lead, have_shared_cell, share_cell}
use Rattle.cue_types.specs.declared.cue.Run.{Run}
use Rattle.frame_scheduler.specs.AuthoredServiceGrid.{cell_at, has_place, written_cells}
use Rattle.windows_shown.proofs.RunLemmas.{with_run, with_runs}

-- a run's first column is no further right than its COL
first_at : (run : Run) → first_column run ≤ run.col
first_at run = elim (has_lead run) as (λ b. (if b then run.col - 1 else run.col) ≤ run.col) [ true ↦ omega arith | false ↦ omega arith ]

-- a place of one run is none of another that shares no cell with it
place_of_one : (a b : Run) (row column : ℕ) → share_cell a b ≡ false → has_place a row column ≡ true → has_place b row column ≡ false
place_of_one a b row column apart has = at (has_place b row column) refl
  where
    at : (other : Bool) → has_place b row column ≡ other → other ≡ false
    at false is = refl
    at true is =
        let from_a : first_column a ≤ a.col = first_at a in
        let from_b : first_column b ≤ b.col = first_at b in
        let same : (a.row == b.row) ≡ true = grind (arith, nat_tests) in
        let a_from : a.col ≤ column = grind (arith, nat_tests) in
        let b_from : b.col ≤ column = grind (arith, nat_tests) in
        let a_to : column < end_column a = grind (arith, nat_tests) in
        let b_to : column < end_column b = grind (arith, nat_tests) in
        let both : nat_lt (max (first_column a) (first_column b)) (min (end_column a) (end_column b)) ≡ true = grind (arith, nat_tests) in
        absurd (grind (arith, nat_tests))

places_of_one : (run : Run) (runs : List Run) (row column : ℕ) → list_any (share_cell run) runs ≡ false → has_place run row column ≡ true
    → AllByRecursion (λ (other : Run). has_place other row column ≡ false) runs
places_of_one run [] row column apart has = tt
places_of_one run (other ∷ runs) row column apart has =
    let parts = or_parts (share_cell run other) (list_any (share_cell run) runs) apart in
    (place_of_one run other row column parts.0 has, places_of_one run runs row column parts.1 has)

-- runs leave a place that none of them has
left_alone : (style : ℕ) (runs : List Run) (cells : Cells) (row column : ℕ) → AllByRecursion (λ (run : Run). has_place run row column ≡ false) runs
    → with_runs style runs cells row column ≡ cells row column
left_alone style [] cells row column none = refl
left_alone style (run ∷ runs) cells row column none =
    left_alone style runs (with_run style run cells) row column none.1
    ∙ ap (λ b. if b then Some (cell_at style run column) else cells row column) none.0

-- at a place without a cell runs that share none leave their cell
cell_is : (style : ℕ) (runs : List Run) (cells : Cells) (row column : ℕ) → have_shared_cell runs ≡ false → cells row column ≡ None
    → with_runs style runs cells row column ≡ written_cells style runs row column
cell_is style [] cells row column apart empty = empty
cell_is style (run ∷ runs) cells row column apart empty =
    let parts = or_parts (list_any (share_cell run) runs) (have_shared_cell runs) apart in
    at parts.0 (λ none. cell_is style runs (with_run style run cells) row column parts.1 none) (has_place run row column) refl
  where
    at : list_any (share_cell run) runs ≡ false
        → (with_run style run cells row column ≡ None → with_runs style runs (with_run style run cells) row column ≡ written_cells style runs row column)
        → (has : Bool) → has_place run row column ≡ has
        → with_runs style runs (with_run style run cells) row column ≡ (if has then Some (cell_at style run column) else written_cells style runs row column)
    at others rest true is =
        left_alone style runs (with_run style run cells) row column (places_of_one run runs row column others is)
        ∙ ap (λ b. if b then Some (cell_at style run column) else cells row column) is
    at others rest false is = rest (ap (λ b. if b then Some (cell_at style run column) else cells row column) is ∙ empty)

pub cells_are : (style : ℕ) (runs : List Run) → have_shared_cell runs ≡ false → with_runs style runs no_cells ≡ written_cells style runs
cells_are style runs apart = fun_ext (λ row. fun_ext (λ column. cell_is style runs no_cells row column apart refl))
