-- Cells in a size: what keeps them there, and what becomes of them where the size changes.
use Rattle.std.proofs.Common.{◌≡◌, ℕ, ◌+◌, ◌<◌, ◌≤◌, ◌==◌, ◌&&◌, not, nat_le, nat_lt, Bool, true, false, if◌then◌else◌, List, Option, None, refl, sym, ◌∙◌, arith}
use Rattle.std.proofs.Math.Path.{fun_ext}
use Rattle.std.proofs.lemmas.Bool.Decides.{nat_tests}
use Rattle.dtvcc_windows.specs.declared.cells.DCell.{DCell}
use Rattle.dtvcc_windows.specs.Places.{Cells, no_cells, raised, window_rolled, with_window_cell, without_cells, without_row}
use Rattle.dtvcc_windows.specs.Sizes.{IsWithin, cells_in, in_size}
use Rattle.dtvcc_windows.specs.Lists.{listed_cells}
use Rattle.dtvcc_windows.proofs.CellLemmas.{cells_outside}

-- a choice whose test fails
chosen_not : (b : Bool) (x y : Option DCell) → b ≡ false → (if b then x else y) ≡ y
chosen_not b x y fails = rw fails refl

-- a written cell of the size keeps cells within it
pub with_cell-within : (rows cols row col : ℕ) (cell : Option DCell) (g : Cells) → IsWithin rows cols g → row < rows → col < cols → IsWithin rows cols (with_window_cell g row col cell)
with_cell-within rows cols row col cell g within row_in col_in r c outside =
    chosen_not (r == row && c == col) cell (g r c) (grind (arith, nat_tests)) ∙ within r c outside

-- so does a removal
pub without_cells-within : (rows cols row from : ℕ) (g : Cells) → IsWithin rows cols g → IsWithin rows cols (without_cells g row from)
without_cells-within rows cols row from g within r c outside = removed_or (r == row && nat_le from c) (g r c) (within r c outside)
  where
    removed_or : (b : Bool) (x : Option DCell) → x ≡ None → (if b then None else x) ≡ None
    removed_or true x none = refl
    removed_or false x none = none

-- and a roll
pub raised-within : (rows cols : ℕ) (g : Cells) → IsWithin rows cols g → IsWithin rows cols (raised g)
raised-within rows cols g within r c outside = within (r + 1) c (grind (arith, nat_tests))

-- no cells are within any size
pub no_cells-within : (rows cols : ℕ) → IsWithin rows cols no_cells
no_cells-within rows cols r c outside = refl

-- the cells of a size are within it
pub cells_in-within : (rows cols : ℕ) (g : Cells) → IsWithin rows cols (cells_in rows cols g)
cells_in-within rows cols g r c outside = chosen_not (in_size rows cols r c) (g r c) None outside

-- cells within a size are the size's cells
at_size : (b : Bool) (x : Option DCell) → (b ≡ false → x ≡ None) → (if b then x else None) ≡ x
at_size true x none = refl
at_size false x none = sym (none refl)

pub cells_in-all : (rows cols : ℕ) (g : Cells) → IsWithin rows cols g → cells_in rows cols g ≡ g
cells_in-all rows cols g within = fun_ext (λ r. fun_ext (λ c. at_size (in_size rows cols r c) (g r c) (within r c)))

-- and the cells of a size that isn't smaller
pub within-larger : (rows cols more_rows more_cols : ℕ) (g : Cells) → rows ≤ more_rows → cols ≤ more_cols → IsWithin rows cols g → IsWithin more_rows more_cols g
within-larger rows cols more_rows more_cols g row_le col_le within r c outside = within r c (grind (arith, nat_tests))

-- where the size shrinks, the cells of the new one are kept
pub kept-smaller : (rows cols new_rows new_cols : ℕ) (g : Cells) → IsWithin rows cols g → cells_in new_rows new_cols g ≡ cells_in new_rows new_cols (cells_in rows cols g)
kept-smaller rows cols new_rows new_cols g within = rw (cells_in-all rows cols g within) refl

-- where it doesn't, all are
pub kept-larger : (rows cols new_rows new_cols : ℕ) (g : Cells) → rows ≤ new_rows → cols ≤ new_cols → IsWithin rows cols g → g ≡ cells_in new_rows new_cols (cells_in rows cols g)
kept-larger rows cols new_rows new_cols g row_le col_le within =
    rw (cells_in-all rows cols g within) (sym (cells_in-all new_rows new_cols g (within-larger rows cols new_rows new_cols g row_le col_le within)))

-- rows that move up by one in a size leave its last row empty
pub raised-rolled : (rows cols : ℕ) (g : Cells) → IsWithin rows cols g → raised g ≡ window_rolled rows g
raised-rolled rows cols g within = fun_ext (λ r. fun_ext (λ c. sym (at_size (nat_lt (r + 1) rows) (g (r + 1) c) (λ below. within (r + 1) c (grind (arith, nat_tests))))))

-- a row without its cells from column 0 on is a row without cells
pub without_row-all : (g : Cells) (row : ℕ) → without_cells g row 0 ≡ without_row g row
without_row-all g row = fun_ext (λ r. fun_ext (λ c. grind (arith, nat_tests)))

-- the rows above one have lost the cells outside of a size
abbrev pub kept_above : ℕ → ℕ → ℕ → Cells → Cells
kept_above row rows cols g r c = if nat_lt r row && not (in_size rows cols r c) then None else g r c

pub kept_above-none : (rows cols : ℕ) (g : Cells) → g ≡ kept_above 0 rows cols g
kept_above-none rows cols g = fun_ext (λ r. fun_ext (λ c. sym (chosen_not (nat_lt r 0 && not (in_size rows cols r c)) None (g r c) (grind (arith, nat_tests)))))

-- one row more: it keeps the columns of the size
pub kept_above-row : (row rows cols : ℕ) (g : Cells) → row < rows → without_cells (kept_above row rows cols g) row cols ≡ kept_above (row + 1) rows cols g
kept_above-row row rows cols g within = fun_ext (λ r. fun_ext (λ c. grind (arith, nat_tests)))

-- or none, past the last row of the size
pub kept_above-behind : (row rows cols : ℕ) (g : Cells) → rows ≤ row → without_cells (kept_above row rows cols g) row 0 ≡ kept_above (row + 1) rows cols g
kept_above-behind row rows cols g behind = fun_ext (λ r. fun_ext (λ c. grind (arith, nat_tests)))

-- all rows have
kept_at : (b : Bool) (x y : Option DCell) → (b ≡ false → x ≡ y) → (b ≡ true → x ≡ None) → x ≡ (if b then None else y)
kept_at true x y kept none = none refl
kept_at false x y kept none = kept refl

pub kept_above-all : (rows cols : ℕ) (places : List (Option DCell)) → kept_above 16 rows cols (listed_cells places) ≡ cells_in rows cols (listed_cells places)
kept_above-all rows cols places = fun_ext (λ r. fun_ext (λ c. sym (kept_at (nat_lt r 16 && not (in_size rows cols r c)) (cells_in rows cols (listed_cells places) r c) (listed_cells places r c)
    (λ kept. at_size (in_size rows cols r c) (listed_cells places r c) (λ out. cells_outside places r c (grind (arith, nat_tests))))
    (λ lost. chosen_not (in_size rows cols r c) (listed_cells places r c) None (grind (arith, nat_tests))))))
