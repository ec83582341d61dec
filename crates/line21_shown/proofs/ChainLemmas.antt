-- The rows of a chain of roll-up cues: a new chain shows the cells of its first cue, and a cue that continues a chain rolls
-- its rows up and writes its own cells into the base row.
use Rattle.std.proofs.Common.{◌≡◌, ◌≢◌, ℕ, zero, suc, ◌+◌, ◌-◌, ◌<◌, ◌≤◌, ◌==◌, ◌&&◌, nat_le, nat_lt, Bool, true, false, if◌then◌else◌, List, [], ◌∷◌, None, All, refl, sym, ap, ◌∙◌, subst, arith}
use Rattle.std.specs.Prelude.{slice_get}
use Rattle.std.proofs.Math.Path.{fun_ext}
use Rattle.std.proofs.lemmas.Bool.Decides.{nat_tests}
use Rattle.std.proofs.lemmas.List.Elements.{All-head, All-tail}
use Rattle.cue_lists.specs.AuthoredGrid.{cell_in, cells_of, cells_of_cue, chain_rows}
use Rattle.cue_lists.specs.Rules.Cells.{covers, have_shared_cell}
use Rattle.cue_lists.specs.declared.cue.Cue.{Cue}
use Rattle.cue_lists.specs.declared.cue.Run.{Run}
use Rattle.line21_screen.specs.Grid.{Grid}
use Rattle.line21_screen.specs.Windows.{in_window, rolled}
use Rattle.line21_shown.specs.Writing.{with_runs}
use Rattle.line21_shown.proofs.CueWritingLemmas.{laid, laid_runs}

-- a run covers no place in another row
covers_no : (run : Run) (row column : ℕ) → row ≢ run.row → covers run row column ≡ false
covers_no run row column other = let test : (row == run.row) ≡ false = grind (arith, nat_tests) in rw test refl

-- runs of one row write nothing in another
laid_off : (runs : List Run) (g : Grid) (base row column : ℕ) → All (λ run. run.row ≡ base) runs → row ≢ base → laid runs g row column ≡ g row column
laid_off [] g base row column one_row other = refl
laid_off (run ∷ runs) g base row column one_row other =
    let here : run.row ≡ base = All-head (λ (x : Run). x.row ≡ base) run runs one_row in
    let away : row ≢ run.row = subst (λ n. row ≢ n) (sym here) other in
    rw (covers_no run row column away) (laid_off runs g base row column (All-tail (λ (x : Run). x.row ≡ base) run runs one_row) other)

-- they have no cell there
pub cells_off : (runs : List Run) (base row column : ℕ) → All (λ run. run.row ≡ base) runs → row ≢ base → cells_of runs row column ≡ None
cells_off [] base row column one_row other = refl
cells_off (run ∷ runs) base row column one_row other =
    let here : run.row ≡ base = All-head (λ (x : Run). x.row ≡ base) run runs one_row in
    let away : row ≢ run.row = subst (λ n. row ≢ n) (sym here) other in
    rw (covers_no run row column away) (cells_off runs base row column (All-tail (λ (x : Run). x.row ≡ base) run runs one_row) other)

-- where a memory has no cell, the cells of runs show alone
laid_over : (runs : List Run) (g : Grid) (row column : ℕ) → g row column ≡ None → laid runs g row column ≡ cells_of runs row column
laid_over [] g row column none = none
laid_over (run ∷ runs) g row column none =
    ap (λ cell. if covers run row column then cell_in run.pen run column else cell) (laid_over runs g row column none)

-- the rows of a chain, by whether the row is one of its rows
pub chain_at : (rows base : ℕ) (chain : List Cue) (row column : ℕ) (b : Bool) → (nat_le row base && nat_lt base (row + rows)) ≡ b
    → chain_rows rows base chain row column ≡ (if b then cells_of_cue (slice_get chain (base - row)) base column else None)
chain_at rows base chain row column b test = rw test refl

-- a chain of one cue shows the cells of the cue
pub new_chain : (rows base : ℕ) (cue : Cue) → 1 ≤ rows → All (λ run. run.row ≡ base) cue.runs → chain_rows rows base (cue ∷ []) ≡ cells_of cue.runs
new_chain rows base cue some one_row = fun_ext (λ row. fun_ext (λ column. at row column (row == base) refl))
  where
    at : (row column : ℕ) (b : Bool) → (row == base) ≡ b → chain_rows rows base (cue ∷ []) row column ≡ cells_of cue.runs row column
    at row column true test =
        let here : row ≡ base = grind (arith, nat_tests) in
        let inside : (nat_le row base && nat_lt base (row + rows)) ≡ true = grind (arith, nat_tests) in
        let none : base - row ≡ 0 = omega arith in
        chain_at rows base (cue ∷ []) row column true inside ∙ rw none (ap (λ r. cells_of cue.runs r column) (sym here))
    at row column false test =
        outside (nat_le row base && nat_lt base (row + rows)) refl
      where
        away : row ≢ base
        away same = let wrong : (row == base) ≡ true = grind (arith, nat_tests) in cc

        outside : (c : Bool) → (nat_le row base && nat_lt base (row + rows)) ≡ c → chain_rows rows base (cue ∷ []) row column ≡ cells_of cue.runs row column
        outside false inside = chain_at rows base (cue ∷ []) row column false inside ∙ sym (cells_off cue.runs base row column one_row away)
        outside true inside =
            let up : row ≤ base = grind (arith, nat_tests) in
            let above : row < base = grind (arith, nat_tests) in
            chain_at rows base (cue ∷ []) row column true inside ∙ none (base - row) (omega arith) ∙ sym (cells_off cue.runs base row column one_row away)
          where
            none : (k : ℕ) → 0 < k → cells_of_cue (slice_get (cue ∷ []) k) base column ≡ None
            none zero some = absurd (omega arith)
            none (suc k) some = refl

-- the test of a rolled window
rolled_at : (g : Grid) (rows base row column : ℕ) (b : Bool) → in_window (rows - 1) (base - 1) row ≡ b
    → rolled g rows base row column ≡ (if b then g (row + base - (base - 1)) column else None)
rolled_at g rows base row column b test = rw test refl

-- a chain with one more cue
pub chain_rolls : (rows base : ℕ) (cue : Cue) (chain : List Cue) → 1 ≤ rows → rows ≤ base → All (λ run. run.row ≡ base) cue.runs
    → have_shared_cell cue.runs ≡ false → with_runs cue.runs (rolled (chain_rows rows base chain) rows base) ≡ chain_rows rows base (cue ∷ chain)
chain_rolls rows base cue chain some room one_row apart = fun_ext (λ row. fun_ext (λ column. by_row row column (row == base) refl))
  where
    by_row : (row column : ℕ) (b : Bool) → (row == base) ≡ b → with_runs cue.runs (rolled (chain_rows rows base chain) rows base) row column ≡ chain_rows rows base (cue ∷ chain) row column
    by_row row column true test =
        let here : row ≡ base = grind (arith, nat_tests) in
        let out : in_window (rows - 1) (base - 1) row ≡ false = grind (arith, nat_tests) in
        let inside : (nat_le row base && nat_lt base (row + rows)) ≡ true = grind (arith, nat_tests) in
        let none : base - row ≡ 0 = omega arith in
        laid_runs cue.runs (rolled (chain_rows rows base chain) rows base) row column apart
        ∙ laid_over cue.runs (rolled (chain_rows rows base chain) rows base) row column (rolled_at (chain_rows rows base chain) rows base row column false out)
        ∙ sym (chain_at rows base (cue ∷ chain) row column true inside ∙ rw none (ap (λ r. cells_of cue.runs r column) (sym here)))
    by_row row column false test =
        laid_runs cue.runs (rolled (chain_rows rows base chain) rows base) row column apart ∙ laid_off cue.runs (rolled (chain_rows rows base chain) rows base) base row column one_row away
        ∙ by_window (nat_le row base && nat_lt base (row + rows)) refl
      where
        away : row ≢ base
        away same = let wrong : (row == base) ≡ true = grind (arith, nat_tests) in cc

        by_window : (c : Bool) → (nat_le row base && nat_lt base (row + rows)) ≡ c → rolled (chain_rows rows base chain) rows base row column ≡ chain_rows rows base (cue ∷ chain) row column
        by_window false inside =
            let out : in_window (rows - 1) (base - 1) row ≡ false = grind (arith, nat_tests) in
            rolled_at (chain_rows rows base chain) rows base row column false out ∙ sym (chain_at rows base (cue ∷ chain) row column false inside)
        by_window true inside =
            let up : row ≤ base = grind (arith, nat_tests) in
            let reach : base < row + rows = grind (arith, nat_tests) in
            let above : row < base = grind (arith, nat_tests) in
            let in_old : in_window (rows - 1) (base - 1) row ≡ true = grind (arith, nat_tests) in
            let below : row + base - (base - 1) ≡ suc row = omega arith in
            let inside_old : (nat_le (suc row) base && nat_lt base (suc row + rows)) ≡ true = grind (arith, nat_tests) in
            let step : base - row ≡ suc (base - suc row) = omega arith in
            rolled_at (chain_rows rows base chain) rows base row column true in_old
            ∙ ap (λ r. chain_rows rows base chain r column) below
            ∙ chain_at rows base chain (suc row) column true inside_old
            ∙ sym (chain_at rows base (cue ∷ chain) row column true inside ∙ ap (λ k. cells_of_cue (slice_get (cue ∷ chain) k) base column) step)
