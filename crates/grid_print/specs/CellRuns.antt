-- Believed: the program's answer stands on these definitions.
-- The runs of a row of cells, as a whole list: by column, the longest stretches of neighbouring cells that are written alike.
use Rattle.std.specs.Prelude.{ℕ, Bool, false, if◌then◌else◌, List, ◌∷◌, Option, Some, None, drop, length, slice_index_or, take_while}
use Rattle.std.specs.List.{filter_map, range_with_len}
use Rattle.std.specs.Option.{option_map}
use Rattle.grid_print.specs.Writing.{Writing}

-- a run: its row, the column of its first cell, this cell, and its characters
pub record Run (C : Type 0) : Type 0 where
  pub row : ℕ
  pub col : ℕ
  pub first : C
  pub text : List ℕ

-- a cell that is written as this one stands at a place
abbrev pub is_alike : {C : Type 0} → Writing C → C → Option C → Bool
is_alike w first None = false
is_alike w first (Some cell) = w.alike first cell

-- the cell with which a run begins at a place, if one does: a cell stands there, and on its left none that is written alike
abbrev pub begun : {C : Type 0} → Writing C → Option C → Option C → Option C
begun w left None = None
begun w left (Some cell) = if is_alike w cell left then None else Some cell

-- the characters of the cells at the front that are written as the first one
abbrev pub front_text : {C : Type 0} → Writing C → C → List (Option C) → List ℕ
front_text w first cells = filter_map (option_map w.ch) (take_while (is_alike w first) cells)

-- the run that begins at a column of a row, if one does; on the left of the first column stands nothing
abbrev pub run_at : {C : Type 0} → Writing C → ℕ → List (Option C) → ℕ → Option (Run C)
run_at w row cells col =
    option_map (λ first. record { row = row; col = col; first = first; text = front_text w first (drop col cells) })
    (begun w (slice_index_or (None ∷ cells) col None) (slice_index_or cells col None))

-- the runs of a row
unfoldable pub row_runs : {C : Type 0} → Writing C → ℕ → List (Option C) → List (Run C)
row_runs w row cells = filter_map (run_at w row cells) (range_with_len 0 (length cells))
