-- Between crates: the program's answer stands on none of these definitions.
-- What the runs of rows of cells are: the longest stretches of neighbouring cells of one row that are written alike, by row, then
-- column.
use Rattle.std.specs.Prelude.{◌≡◌, ℕ, ◌+◌, ◌<◌, ◌≤◌, ◌⊎◌, Bool, true, false, List, [], ◌∷◌, Option, Some, Contains, IsSome, length, slice_index}
use Rattle.std.specs.List.{All}
use Rattle.grid_print.specs.CellRuns.{Run, is_alike}
use Rattle.grid_print.specs.Writing.{Writing}

-- cells at rows and columns, and which of these are places
pub record Places (C : Type 0) : Type 0 where
  pub inside : ℕ → ℕ → Bool
  pub cell : ℕ → ℕ → Option C

-- a run: neighbouring cells of one row that are written alike, at least one, and the longest such stretch there
pub record IsRun {C : Type 0} (w : Writing C) (p : Places C) (run : Run C) : Type 0 where
  pub some : 0 < length run.text
  pub first : p.cell run.row run.col ≡ Some run.first
  pub within : (k : ℕ) → k < length run.text → p.inside run.row (run.col + k) ≡ true
  pub cells : (k : ℕ) → k < length run.text
      → (cell : C) × (p.cell run.row (run.col + k) ≡ Some cell) × (w.alike run.first cell ≡ true) × (w.ch cell ≡ slice_index run.text k)
  pub begins : (left : ℕ) → left + 1 ≡ run.col → is_alike w run.first (p.cell run.row left) ≡ false
  pub ends : p.inside run.row (run.col + length run.text) ≡ true → is_alike w run.first (p.cell run.row (run.col + length run.text)) ≡ false

-- a place is one of a run
pub record IsPlaceOfRun {C : Type 0} (row col : ℕ) (run : Run C) : Type 0 where
  pub in_row : run.row ≡ row
  pub from : run.col ≤ col
  pub to : col < run.col + length run.text

-- a run stands before another one
abbrev pub IsBefore : {C : Type 0} → Run C → Run C → Type 0
IsBefore a b = (a.row < b.row) ⊎ ((a.row ≡ b.row) × (a.col < b.col))

-- each run stands before all that follow
abbrev pub AreInOrder : {C : Type 0} → List (Run C) → Type 0
AreInOrder [] = Unit {0}
AreInOrder (run ∷ runs) = All (IsBefore run) runs × AreInOrder runs

-- the runs of places: each is one, each cell is in one, and they stand by row, then column
pub record AreRunsOf {C : Type 0} (w : Writing C) (p : Places C) (runs : List (Run C)) : Type 0 where
  pub each : All (IsRun w p) runs
  pub all : (row col : ℕ) → p.inside row col ≡ true → IsSome (p.cell row col) → (run : Run C) × Contains runs run × IsPlaceOfRun row col run
  pub order : AreInOrder runs
