-- The grid of a list of cells: what a read and a write of the list are to it.
use Rattle.std.proofs.Common.{◌≡◌, ◌≢◌, ℕ, ◌+◌, ◌-◌, ◌*◌, ◌<◌, ◌≤◌, ◌==◌, ◌&&◌, Bool, true, false, if◌then◌else◌, List, Option, None, get_or, length, refl, sym, ap, ◌∙◌, arith, get_or-set_same, get_or-set_other, min, inl, inr}
use Rattle.std.proofs.Math.ListN.{set}
use Rattle.std.proofs.Math.Path.{fun_ext}
use Rattle.std.proofs.lemmas.Bool.{cases_lt}
use Rattle.std.proofs.lemmas.Bool.Decides.{nat_tests}
use Rattle.std.proofs.lemmas.List.{get_or_default}
use Rattle.std.specs.List.{AllWithin, CopiedTo, SameBelow, SameFrom}
use Rattle.line21_codes.specs.declared.styles.Cell.{Cell}
use Rattle.line21_screen.specs.Grid.{Grid, in_grid, empty_grid, with_cell}
use Rattle.line21_screen.specs.Windows.{in_window, moved}
use Rattle.line21_screen.specs.Objects.{place, grid_of}

-- a choice that falls away where the test fails
pub chosen : (b : Bool) (x y : Option Cell) → (b ≡ true → x ≡ y) → (b ≡ false → y ≡ None) → (if b then x else None) ≡ y
chosen true x y inside outside = inside refl
chosen false x y inside outside = sym (outside refl)

-- a grid is the grid of a list which agrees with it at each place, where it has nothing elsewhere
pub grid_is : (cells : List (Option Cell)) (g : Grid) → ((r c : ℕ) → in_grid r c ≡ true → get_or cells (place r c) None ≡ g r c) → ((r c : ℕ) → in_grid r c ≡ false → g r c ≡ None) → grid_of cells ≡ g
unfolding grid_of
grid_is cells g inside outside = fun_ext (λ r. fun_ext (λ c. chosen (in_grid r c) (get_or cells (place r c) None) (g r c) (inside r c) (outside r c)))

-- within the grid
grid_inside : (cells : List (Option Cell)) (r c : ℕ) → in_grid r c ≡ true → grid_of cells r c ≡ get_or cells (place r c) None
unfolding grid_of
grid_inside cells r c inside = rw inside refl

-- outside of it
pub grid_outside : (cells : List (Option Cell)) (r c : ℕ) → in_grid r c ≡ false → grid_of cells r c ≡ None
unfolding grid_of
grid_outside cells r c outside = rw outside refl

-- what the test of a place says
pub row_from : (r c : ℕ) → in_grid r c ≡ true → 1 ≤ r
row_from r c inside = grind (arith, nat_tests)

pub row_to : (r c : ℕ) → in_grid r c ≡ true → r ≤ 15
row_to r c inside = grind (arith, nat_tests)

pub col_to : (r c : ℕ) → in_grid r c ≡ true → c < 32
col_to r c inside = grind (arith, nat_tests)

-- and what makes one
pub is_inside : (r c : ℕ) → 1 ≤ r → r ≤ 15 → c < 32 → in_grid r c ≡ true
is_inside r c from to col = grind (arith, nat_tests)

-- the cell at a place
pub cell_at : (cells : List (Option Cell)) (r c : ℕ) → 1 ≤ r → r ≤ 15 → c < 32 → grid_of cells r c ≡ get_or cells ((r - 1) * 32 + c) None
cell_at cells r c from to col = grid_inside cells r c (is_inside r c from to col)

-- no other row and column have the same place
other_place : (row col r c : ℕ) → 1 ≤ row → col < 32 → 1 ≤ r → c < 32 → (r == row && c == col) ≡ false → place r c ≢ place row col
other_place row col r c from to r_from c_to other same =
    let rows : r ≡ row = omega arith in
    let cols : c ≡ col = omega arith in grind (arith, nat_tests)

-- one and the same row and column have one place
same_place : (row col r c : ℕ) → (r == row && c == col) ≡ true → place r c ≡ place row col
same_place row col r c same =
    let rows : r ≡ row = grind (arith, nat_tests) in
    let cols : c ≡ col = grind (arith, nat_tests) in cc

-- a written list at a place
set_at : (cells : List (Option Cell)) (row col : ℕ) (cell : Option Cell) (r c : ℕ) → length cells ≡ 480 → in_grid row col ≡ true → in_grid r c ≡ true → (b : Bool) → (r == row && c == col) ≡ b → get_or (set cells (place row col) cell) (place r c) None ≡ (if b then cell else grid_of cells r c)
set_at cells row col cell r c long at inside true same =
    let within : place row col < length cells = omega (arith, row_from row col at, row_to row col at, col_to row col at) in
    rw (same_place row col r c same) (get_or-set_same cells (place row col) cell None within)
set_at cells row col cell r c long at inside false other =
    rw (grid_inside cells r c inside) (get_or-set_other cells (place row col) (place r c) cell None (other_place row col r c (row_from row col at) (col_to row col at) (row_from r c inside) (col_to r c inside) other))

-- outside of the grid nothing is written
unwritten : (cells : List (Option Cell)) (row col : ℕ) (cell : Option Cell) (r c : ℕ) → in_grid row col ≡ true → in_grid r c ≡ false → (b : Bool) → (r == row && c == col) ≡ b → (if b then cell else grid_of cells r c) ≡ None
unwritten cells row col cell r c at outside true same =
    let rows : r ≡ row = grind (arith, nat_tests) in
    let cols : c ≡ col = grind (arith, nat_tests) in cc
unwritten cells row col cell r c at outside false other = grid_outside cells r c outside

-- a written list is the grid with that cell
pub put_grid : (cells : List (Option Cell)) (row col : ℕ) (cell : Option Cell) → length cells ≡ 480 → 1 ≤ row → row ≤ 15 → col < 32 → grid_of (set cells ((row - 1) * 32 + col) cell) ≡ with_cell (grid_of cells) row col cell
put_grid cells row col cell long from to col_to =
    let at : in_grid row col ≡ true = is_inside row col from to col_to in
    grid_is (set cells (place row col) cell) (with_cell (grid_of cells) row col cell)
    (λ r c inside. set_at cells row col cell r c long at inside (r == row && c == col) refl)
    (λ r c outside. unwritten cells row col cell r c at outside (r == row && c == col) refl)

-- a list of no cells is the empty grid
pub none_grid : (cells : List (Option Cell)) → AllWithin (λ cell. cell ≡ None) cells 0 480 → grid_of cells ≡ empty_grid
none_grid cells none = grid_is cells empty_grid (λ r c inside. none (place r c) None (omega arith) (omega (arith, row_from r c inside, row_to r c inside, col_to r c inside))) (λ r c outside. refl)

-- no cell is left where all are removed between those that there were none of
pub none_left : (was cells : List (Option Cell)) (first behind : ℕ) → AllWithin (λ cell. cell ≡ None) was 0 first → AllWithin (λ cell. cell ≡ None) was behind 480 → AllWithin (λ cell. cell ≡ None) cells first behind → SameBelow was cells first → SameFrom was cells behind → AllWithin (λ cell. cell ≡ None) cells 0 480
none_left was cells first behind none_above none_below removed above below k d from to =
    elim (cases_lt k first) [
      | inl before ↦ above k d before ∙ none_above k d from before
      | inr not_before ↦ elim (cases_lt k behind) [
        | inl within ↦ removed k d not_before within
        | inr past ↦ below k d past ∙ none_below k d past to
      ]
    ]

-- a choice whose test fails
kept_at : (b : Bool) (x : Option Cell) → b ≡ false → (if b then None else x) ≡ x
kept_at b x fails = rw fails refl

-- a moved grid has nothing outside of the grid
moved_outside : (cells : List (Option Cell)) (rows old new r c : ℕ) → old ≤ 15 → new ≤ 15 → in_grid r c ≡ false → (b : Bool) → in_window rows new r ≡ b → (if b then grid_of cells (r + old - new) c else None) ≡ None
moved_outside cells rows old new r c old_to new_to outside true within = grid_outside cells (r + old - new) c (grind (arith, nat_tests))
moved_outside cells rows old new r c old_to new_to outside false without = refl

-- no row of the moved grid ends above the rows that moved
moved_above : (cells : List (Option Cell)) (rows old new r c : ℕ) → old ≤ 15 → new ≤ 15 → r ≤ new - min (min rows old) new → (b : Bool) → in_window rows new r ≡ b → (if b then grid_of cells (r + old - new) c else None) ≡ None
moved_above cells rows old new r c old_to new_to above true within = grid_outside cells (r + old - new) c (grind (arith, nat_tests))
moved_above cells rows old new r c old_to new_to above false without = refl

-- and none stands below them
moved_below : (cells : List (Option Cell)) (rows old new r c : ℕ) → new < r → moved (grid_of cells) rows old new r c ≡ None
moved_below cells rows old new r c below =
    let without : in_window rows new r ≡ false = grind (arith, nat_tests) in
    rw without refl

-- the rows that moved are the moved grid's
moved_at : (cells : List (Option Cell)) (rows old new r c : ℕ) → new - min (min rows old) new < r → r ≤ new → moved (grid_of cells) rows old new r c ≡ grid_of cells (r + old - new) c
moved_at cells rows old new r c above below =
    let within : in_window rows new r ≡ true = grind (arith, nat_tests) in
    rw within refl

-- this many rows that ended at one row end at another, and no other row has a cell
pub record HasMoved (was cells : List (Option Cell)) (count old new : ℕ) : Type 0 where
  pub moved_to : CopiedTo was cells ((old - count) * 32) ((new - count) * 32) (count * 32)
  pub none_above : AllWithin (λ cell. cell ≡ None) cells 0 ((new - count) * 32)
  pub none_below : AllWithin (λ cell. cell ≡ None) cells (new * 32) 480

-- the rows are copied, and what stood above and below their new place is removed
pub has_moved : (was copied half cells : List (Option Cell)) (count old new first behind : ℕ) → count ≤ old → count ≤ new → new ≤ 15 → AllWithin (λ cell. cell ≡ None) was 0 first → AllWithin (λ cell. cell ≡ None) was behind 480 → CopiedTo was copied ((old - count) * 32) ((new - count) * 32) (count * 32) → SameBelow was copied ((new - count) * 32) → SameFrom was copied (new * 32) → AllWithin (λ cell. cell ≡ None) half first ((new - count) * 32) → SameBelow copied half first → SameFrom copied half ((new - count) * 32) → AllWithin (λ cell. cell ≡ None) cells (new * 32) behind → SameBelow half cells (new * 32) → SameFrom half cells behind → HasMoved was cells count old new
has_moved was copied half cells count old new first behind in_old in_new to none_above none_below is_copied copied_above copied_below removed_above half_above half_below removed_below cells_above cells_below = record {
  moved_to = λ k d from below.
      cells_above k d (omega arith) ∙ half_below k d from ∙ is_copied k d from below;
  none_above = λ k d from above.
      cells_above k d (omega arith) ∙ (elim (cases_lt k first) [
        | inl before ↦ half_above k d before ∙ copied_above k d above ∙ none_above k d from before
        | inr not_before ↦ removed_above k d not_before above
      ]);
  none_below = λ k d from below.
      elim (cases_lt k behind) [
        | inl within ↦ removed_below k d from within
        | inr past ↦ cells_below k d past ∙ half_below k d (omega arith) ∙ copied_below k d from ∙ none_below k d past below
      ];
}

-- where the cell of a row that moved came from
from_place : (rows old new r c : ℕ) → 1 ≤ r → r ≤ new → new - min (min rows old) new < r → (old - min (min rows old) new) * 32 + (place r c - (new - min (min rows old) new) * 32) ≡ place (r + old - new) c
from_place rows old new r c from within moves = omega arith

-- the rows of a list that moved are the moved grid
moved_inside : (was cells : List (Option Cell)) (rows old new r c : ℕ) → old ≤ 15 → new ≤ 15 → HasMoved was cells (min (min rows old) new) old new → in_grid r c ≡ true → get_or cells (place r c) None ≡ moved (grid_of was) rows old new r c
moved_inside was cells rows old new r c old_to new_to has inside =
    let from : 1 ≤ r = row_from r c inside in
    let to : r ≤ 15 = row_to r c inside in
    let col : c < 32 = col_to r c inside in
    elim (cases_lt new r) [
      | inl below ↦ has.none_below (place r c) None (omega arith) (omega arith) ∙ sym (moved_below was rows old new r c below)
      | inr within ↦ elim (cases_lt (new - min (min rows old) new) r) [
        | inl moves ↦ has.moved_to (place r c) None (omega arith) (omega arith)
            ∙ ap (λ k. get_or was k None) (from_place rows old new r c from within moves)
            ∙ sym (cell_at was (r + old - new) c (omega arith) (omega arith) col)
            ∙ sym (moved_at was rows old new r c moves within)
        | inr above ↦ has.none_above (place r c) None (omega arith) (omega arith) ∙ sym (moved_above was rows old new r c old_to new_to above (in_window rows new r) refl)
      ]
    ]

-- and so the grid is the moved one
pub moved_grid : (was cells : List (Option Cell)) (rows old new : ℕ) → old ≤ 15 → new ≤ 15 → HasMoved was cells (min (min rows old) new) old new → grid_of cells ≡ moved (grid_of was) rows old new
moved_grid was cells rows old new old_to new_to has =
    grid_is cells (moved (grid_of was) rows old new)
    (λ r c inside. moved_inside was cells rows old new r c old_to new_to has inside)
    (λ r c outside. moved_outside was rows old new r c old_to new_to outside (in_window rows new r) refl)

-- a cell that was read from the list is the grid's
pub read_at : (cells : List (Option Cell)) (row col at : ℕ) (cell : Option Cell) → 1 ≤ row → row ≤ 15 → col < 32 → at ≡ (row - 1) * 32 + col → at < length cells → cell ≡ get_or cells at cell → cell ≡ grid_of cells row col
read_at cells row col at cell from to col_to is within read =
    read ∙ get_or_default cells at cell None within ∙ ap (λ n. get_or cells n None) is ∙ sym (cell_at cells row col from to col_to)
