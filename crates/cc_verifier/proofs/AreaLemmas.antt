-- Places of the caption area at which a grid has another cell.
use Rattle.std.proofs.Common.{◌≡◌, ◌≢◌, ◌∙◌, ℕ, ◌<◌, ◌≤◌, arith}
use Rattle.std.specs.Prelude.{Option}
use Rattle.line21_codes.specs.declared.styles.Cell.{Cell}
use Rattle.line21_screen.specs.Differences.{HasOther}
use Rattle.line21_screen.specs.Grid.{Grid}
use Rattle.line21_screen.proofs.GridLemmas.{col_to, is_inside, row_from, row_to}

-- a place in a row
pub other_in_row : (old new : Grid) (row : ℕ) (line : ℕ → Option Cell) → 1 ≤ row → row ≤ 15 → ((column : ℕ) → new row column ≡ line column)
    → (column : ℕ) × (column < 32) × (old row column ≢ line column) → HasOther old new
other_in_row old new row line from to is other = record {
  row = row;
  col = other.0;
  inside = is_inside row other.0 from to other.1;
  other = λ same. other.2 (same ∙ is other.0);
}

-- no place in any row
pub none_in_rows : (old new : Grid) → ((row : ℕ) → row < 16 → 1 ≤ row → (column : ℕ) → column < 32 → old row column ≡ new row column) → HasOther old new → ⊥
none_in_rows old new same has =
    let to : has.row ≤ 15 = row_to has.row has.col has.inside in
    has.other (same has.row (omega arith) (row_from has.row has.col has.inside) has.col (col_to has.row has.col has.inside))
