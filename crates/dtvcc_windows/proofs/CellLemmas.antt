-- The cells of a list: what a read, a write and a removal of places are to them.
use Rattle.std.proofs.Common.{◌≡◌, ◌≢◌, ℕ, ◌+◌, ◌*◌, ◌<◌, ◌≤◌, ◌==◌, ◌&&◌, nat_le, Bool, true, false, if◌then◌else◌, List, [], Option, None, get_or, length, refl, sym, ap, ◌∙◌, arith, get_or-set_same, get_or-set_other, inl, inr}
use Rattle.std.proofs.Math.ListN.{set}
use Rattle.std.proofs.Math.Path.{fun_ext}
use Rattle.std.proofs.lemmas.Bool.{cases_lt}
use Rattle.std.proofs.lemmas.Bool.Decides.{nat_tests}
use Rattle.std.proofs.lemmas.List.{get_or_default}
use Rattle.std.specs.List.{AllWithin, SameBelow, SameFrom}
use Rattle.dtvcc_windows.specs.declared.cells.DCell.{DCell}
use Rattle.dtvcc_windows.specs.Places.{Cells, no_cells, raised, with_window_cell, without_cells}
use Rattle.dtvcc_windows.specs.Raising.{HasRaised}
use Rattle.dtvcc_windows.specs.Sizes.{in_size}
use Rattle.dtvcc_windows.specs.Lists.{place, listed_cells}

-- a choice that falls away where the test fails
pub chosen : (b : Bool) (x y : Option DCell) → (b ≡ true → x ≡ y) → (b ≡ false → y ≡ None) → (if b then x else None) ≡ y
chosen true x y inside outside = inside refl
chosen false x y inside outside = sym (outside refl)

-- cells are the cells of a list which agrees with them at each place, where there are none elsewhere
pub cells_are : (places : List (Option DCell)) (g : Cells) → ((r c : ℕ) → in_size 16 64 r c ≡ true → get_or places (place r c) None ≡ g r c) → ((r c : ℕ) → in_size 16 64 r c ≡ false → g r c ≡ None) → listed_cells places ≡ g
unfolding listed_cells
cells_are places g inside outside = fun_ext (λ r. fun_ext (λ c. chosen (in_size 16 64 r c) (get_or places (place r c) None) (g r c) (inside r c) (outside r c)))

-- within the largest size
cells_inside : (places : List (Option DCell)) (r c : ℕ) → in_size 16 64 r c ≡ true → listed_cells places r c ≡ get_or places (place r c) None
unfolding listed_cells
cells_inside places r c inside = rw inside refl

-- outside of it
pub cells_outside : (places : List (Option DCell)) (r c : ℕ) → in_size 16 64 r c ≡ false → listed_cells places r c ≡ None
unfolding listed_cells
cells_outside places r c outside = rw outside refl

-- what the test of a place says
pub row_to : (r c : ℕ) → in_size 16 64 r c ≡ true → r < 16
row_to r c inside = grind (arith, nat_tests)

pub col_to : (r c : ℕ) → in_size 16 64 r c ≡ true → c < 64
col_to r c inside = grind (arith, nat_tests)

-- and what makes one
pub is_inside : (r c : ℕ) → r < 16 → c < 64 → in_size 16 64 r c ≡ true
is_inside r c row col = grind (arith, nat_tests)

-- the cell at a place
pub cell_at : (places : List (Option DCell)) (r c : ℕ) → r < 16 → c < 64 → listed_cells places r c ≡ get_or places (r * 64 + c) None
cell_at places r c row col = cells_inside places r c (is_inside r c row col)

-- no other row and column have the same place
other_place : (row col r c : ℕ) → col < 64 → c < 64 → (r == row && c == col) ≡ false → place r c ≢ place row col
other_place row col r c to c_to other same =
    let rows : r ≡ row = omega arith in
    let cols : c ≡ col = omega arith in grind (arith, nat_tests)

-- one and the same row and column have one place
same_place : (row col r c : ℕ) → (r == row && c == col) ≡ true → place r c ≡ place row col
same_place row col r c same =
    let rows : r ≡ row = grind (arith, nat_tests) in
    let cols : c ≡ col = grind (arith, nat_tests) in cc

-- a written list at a place
set_at : (places : List (Option DCell)) (row col : ℕ) (cell : Option DCell) (r c : ℕ) → length places ≡ 1024 → in_size 16 64 row col ≡ true → in_size 16 64 r c ≡ true → (b : Bool) → (r == row && c == col) ≡ b → get_or (set places (place row col) cell) (place r c) None ≡ (if b then cell else listed_cells places r c)
set_at places row col cell r c long at inside true same =
    let within : place row col < length places = omega (arith, row_to row col at, col_to row col at) in
    rw (same_place row col r c same) (get_or-set_same places (place row col) cell None within)
set_at places row col cell r c long at inside false other =
    rw (cells_inside places r c inside) (get_or-set_other places (place row col) (place r c) cell None (other_place row col r c (col_to row col at) (col_to r c inside) other))

-- outside of the largest size nothing is written
unwritten : (places : List (Option DCell)) (row col : ℕ) (cell : Option DCell) (r c : ℕ) → in_size 16 64 row col ≡ true → in_size 16 64 r c ≡ false → (b : Bool) → (r == row && c == col) ≡ b → (if b then cell else listed_cells places r c) ≡ None
unwritten places row col cell r c at outside true same =
    let rows : r ≡ row = grind (arith, nat_tests) in
    let cols : c ≡ col = grind (arith, nat_tests) in cc
unwritten places row col cell r c at outside false other = cells_outside places r c outside

-- a written list has that cell
pub put_cells : (places : List (Option DCell)) (row col : ℕ) (cell : Option DCell) → length places ≡ 1024 → row < 16 → col < 64 → listed_cells (set places (row * 64 + col) cell) ≡ with_window_cell (listed_cells places) row col cell
put_cells places row col cell long row_in col_in =
    let at : in_size 16 64 row col ≡ true = is_inside row col row_in col_in in
    cells_are (set places (place row col) cell) (with_window_cell (listed_cells places) row col cell)
    (λ r c inside. set_at places row col cell r c long at inside (r == row && c == col) refl)
    (λ r c outside. unwritten places row col cell r c at outside (r == row && c == col) refl)

-- a list without a cell has no cells
pub none_cells : (places : List (Option DCell)) → AllWithin (λ cell. cell ≡ None) places 0 1024 → listed_cells places ≡ no_cells
none_cells places none = cells_are places no_cells (λ r c inside. none (place r c) None (omega arith) (omega (arith, row_to r c inside, col_to r c inside))) (λ r c outside. refl)

-- and no list has none
pub no_places : listed_cells [] ≡ no_cells
no_places = cells_are [] no_cells (λ r c inside. refl) (λ r c outside. refl)

-- no cell is left where all are removed between those that there were none of
pub none_left : (was places : List (Option DCell)) (first behind : ℕ) → AllWithin (λ cell. cell ≡ None) was 0 first → AllWithin (λ cell. cell ≡ None) was behind 1024 → AllWithin (λ cell. cell ≡ None) places first behind → SameBelow was places first → SameFrom was places behind → AllWithin (λ cell. cell ≡ None) places 0 1024
none_left was places first behind none_above none_below removed above below k d from to =
    elim (cases_lt k first) [
      | inl before ↦ above k d before ∙ none_above k d from before
      | inr not_before ↦ elim (cases_lt k behind) [
        | inl within ↦ removed k d not_before within
        | inr past ↦ below k d past ∙ none_below k d past to
      ]
    ]

-- the places of a row from a column on, where they lose their cells
removed_at : (was places : List (Option DCell)) (row col r c : ℕ) → row < 16 → in_size 16 64 r c ≡ true → AllWithin (λ cell. cell ≡ None) places (row * 64 + col) (row * 64 + 64) → SameBelow was places (row * 64 + col) → SameFrom was places (row * 64 + 64) → (b : Bool) → (r == row && nat_le col c) ≡ b → get_or places (place r c) None ≡ (if b then None else listed_cells was r c)
removed_at was places row col r c row_in inside removed above below true at =
    let same : r ≡ row = grind (arith, nat_tests) in
    let from : col ≤ c = grind (arith, nat_tests) in
    removed (place r c) None (omega arith) (omega (arith, col_to r c inside))
removed_at was places row col r c row_in inside removed above below false at =
    let c_to : c < 64 = col_to r c inside in
    elim (cases_lt (place r c) (row * 64 + col)) [
      | inl before ↦ above (place r c) None before ∙ sym (cells_inside was r c inside)
      | inr from ↦ elim (cases_lt (place r c) (row * 64 + 64)) [
        | inl within ↦
            let same : r ≡ row = omega arith in
            let past : col ≤ c = omega arith in
            absurd (grind (arith, nat_tests))
        | inr past ↦ below (place r c) None past ∙ sym (cells_inside was r c inside)
      ]
    ]

-- outside of the largest size there is none to remove
none_removed : (g : Option DCell) (b : Bool) → g ≡ None → (if b then None else g) ≡ None
none_removed g true none = refl
none_removed g false none = none

-- a list without the cells of a row from a column on
pub removed_cells : (was places : List (Option DCell)) (row col : ℕ) → row < 16 → AllWithin (λ cell. cell ≡ None) places (row * 64 + col) (row * 64 + 64) → SameBelow was places (row * 64 + col) → SameFrom was places (row * 64 + 64) → listed_cells places ≡ without_cells (listed_cells was) row col
removed_cells was places row col row_in removed above below =
    cells_are places (without_cells (listed_cells was) row col)
    (λ r c inside. removed_at was places row col r c row_in inside removed above below (r == row && nat_le col c) refl)
    (λ r c outside. none_removed (listed_cells was r c) (r == row && nat_le col c) (cells_outside was r c outside))

-- a list whose rows moved up by one, at a place
raised_at : (was places : List (Option DCell)) (r c : ℕ) → HasRaised was places → in_size 16 64 r c ≡ true → get_or places (place r c) None ≡ raised (listed_cells was) r c
raised_at was places r c has inside =
    let row : r < 16 = row_to r c inside in
    let col : c < 64 = col_to r c inside in
    elim (cases_lt r 15) [
      | inl above ↦ has.moved (place r c) None (omega arith) ∙ ap (λ k. get_or was k None) (omega arith) ∙ sym (cell_at was (r + 1) c (omega arith) col)
      | inr last ↦ has.last (place r c) None (omega arith) (omega arith) ∙ sym (cells_outside was (r + 1) c (grind (arith, nat_tests)))
    ]

-- a list whose rows moved up by one
pub raised_cells : (was places : List (Option DCell)) → HasRaised was places → listed_cells places ≡ raised (listed_cells was)
raised_cells was places has =
    cells_are places (raised (listed_cells was)) (λ r c inside. raised_at was places r c has inside)
    (λ r c outside. cells_outside was (r + 1) c (grind (arith, nat_tests)))

-- a cell that was read from the list
pub read_at : (places : List (Option DCell)) (row col at : ℕ) (cell : Option DCell) → row < 16 → col < 64 → at ≡ row * 64 + col → at < length places → cell ≡ get_or places at cell → cell ≡ listed_cells places row col
read_at places row col at cell row_in col_in is within read =
    read ∙ get_or_default places at cell None within ∙ ap (λ n. get_or places n None) is ∙ sym (cell_at places row col row_in col_in)
