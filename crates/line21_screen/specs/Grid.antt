-- Believed: the program's answer stands on these definitions.
-- The grid of a caption memory: what stands at each row, 1 to 15, and column, 0 to 31
-- (CTA-608-E and 47 CFR 79.101, caption area).
use Rattle.std.specs.Prelude.{ℕ, ◌==◌, ◌&&◌, nat_le, nat_lt, Bool, if◌then◌else◌, List, Option, None, map}
use Rattle.std.specs.List.{range_with_len}
use Rattle.line21_codes.specs.declared.styles.Cell.{Cell}

-- the cell at a row and a column, where there is one
abbrev pub Grid : Type 0
Grid = ℕ → ℕ → Option Cell

-- the row and the column are a place's
abbrev pub in_grid : ℕ → ℕ → Bool
in_grid row col = nat_le 1 row && nat_le row 15 && nat_lt col 32

-- no cell at all
abbrev pub empty_grid : Grid
empty_grid row col = None

-- one cell is written, or removed
abbrev pub with_cell : Grid → ℕ → ℕ → Option Cell → Grid
with_cell g row col cell r c = if r == row && c == col then cell else g r c

-- the cells of a row from one column up to another, which is left out, are removed
abbrev pub without_cells : Grid → ℕ → ℕ → ℕ → Grid
without_cells g row from to r c = if r == row && nat_le from c && nat_lt c to then None else g r c

-- the rows and the columns
abbrev pub rows : List ℕ
rows = range_with_len 1 15

abbrev pub columns : List ℕ
columns = range_with_len 0 32

-- what stands in a row, column by column
unfoldable pub row_cells : Grid → ℕ → List (Option Cell)
row_cells g row = map (g row) columns
