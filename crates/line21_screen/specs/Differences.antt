-- Believed: the program's answer stands on these definitions.
-- Whether two grids differ: some place has another cell.
use Rattle.std.specs.Prelude.{◌≡◌, ◌≢◌, ℕ, ◌==◌, ◌&&◌, not, Bool, true, false, Option, Some, None}
use Rattle.std.specs.List.{list_any}
use Rattle.line21_codes.specs.declared.styles.Cell.{Cell}
use Rattle.line21_codes.specs.SameStyles.{same_style}
use Rattle.line21_screen.specs.Grid.{Grid, columns, in_grid, rows}

-- two places have the same cell, or neither has one
unfoldable pub same_cell : Option Cell → Option Cell → Bool
same_cell None None = true
same_cell (Some a) (Some b) = a.ch == b.ch && same_style a.style b.style
same_cell _ _ = false

-- some place has another cell
unfoldable pub grid_differs : Grid → Grid → Bool
grid_differs old new = list_any (λ row. list_any (λ col. not (same_cell (old row col) (new row col))) columns) rows

-- the same in a word: a place that has another cell
pub record HasOther (old new : Grid) : Type 0 where
  pub row : ℕ
  pub col : ℕ
  pub inside : in_grid row col ≡ true
  pub other : old row col ≢ new row col
