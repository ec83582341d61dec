-- What the bounds of a window's cells say of them, and when two lists have the same cells.
use Rattle.std.proofs.Common.{◌≡◌, ℕ, ◌+◌, ◌-◌, ◌*◌, ◌/◌, ◌%◌, ◌<◌, ◌≤◌, not, Bool, true, false, List, Option, None, get_or, length, take, drop, refl, sym, ap, ◌∙◌, arith, inl, inr}
use Rattle.std.proofs.lemmas.Bool.{cases_lt}
use Rattle.std.proofs.lemmas.List.{ext_get_or, get_or-drop, get_or-take, length-drop, length-take, same_lists}
use Rattle.std.proofs.lemmas.List.FromFn.{fill_by_all}
use Rattle.std.specs.Bool.{Decides}
use Rattle.std.specs.List.{AllWithin, CopiedTo, SameBelow, SameFrom}
use Rattle.dtvcc_windows.specs.declared.cells.DCell.{DCell}
use Rattle.dtvcc_windows.specs.Lists.{listed_cells, place}
use Rattle.dtvcc_windows.specs.Places.{window_row}
use Rattle.dtvcc_windows.specs.Sizes.{in_size}
use Rattle.dtvcc_windows.proofs.CellLemmas.{cell_at, chosen, col_to, row_to}

-- a place has no cell where the list has none there
none_at : (places : List (Option DCell)) (r c : ℕ) → (in_size 16 64 r c ≡ true → get_or places (place r c) None ≡ None) → listed_cells places r c ≡ None
unfolding listed_cells
none_at places r c none = chosen (in_size 16 64 r c) (get_or places (place r c) None) None none (λ outside. refl)

-- no row that ends at the first place or before it has a cell
pub none_before : (places : List (Option DCell)) (first r c : ℕ) → AllWithin (λ cell. cell ≡ None) places 0 first → (r + 1) * 64 ≤ first → listed_cells places r c ≡ None
none_before places first r c none above =
    none_at places r c (λ inside. none (place r c) None (omega arith) (omega (arith, col_to r c inside)))

-- and no row that begins at the place after the last one or after it
pub none_behind : (places : List (Option DCell)) (behind r c : ℕ) → AllWithin (λ cell. cell ≡ None) places behind 1024 → behind ≤ r * 64 → listed_cells places r c ≡ None
none_behind places behind r c none below =
    none_at places r c (λ inside. none (place r c) None (omega arith) (omega (arith, row_to r c inside, col_to r c inside)))

-- no place has a cell where the first one isn't before the one after the last
pub none_at_all : (places : List (Option DCell)) (first behind r c : ℕ) → AllWithin (λ cell. cell ≡ None) places 0 first → AllWithin (λ cell. cell ≡ None) places behind 1024 → behind ≤ first → listed_cells places r c ≡ None
none_at_all places first behind r c none_above none_below empty =
    none_at places r c (λ inside. elim (cases_lt (place r c) first) [
      | inl before ↦ none_above (place r c) None (omega arith) before
      | inr past ↦ none_below (place r c) None (omega arith) (omega (arith, row_to r c inside, col_to r c inside))
    ])

-- the part of the list at a row is what stands in its first columns
pub row_is : (places : List (Option DCell)) (r cols from to : ℕ) → length places ≡ 1024 → r < 16 → cols ≤ 64 → from ≡ r * 64 → to ≡ from + cols → take (to - from) (drop from places) ≡ window_row (listed_cells places) cols r
unfolding window_row
row_is places r cols from to long row_to cols_to is_from is_to =
    fill_by_all (λ col. listed_cells places r col) (take (to - from) (drop from places)) cols None
    (simp (length-take, length-drop) (omega arith))
    (λ k within. get_or-take (to - from) (drop from places) k None (omega arith) ∙ get_or-drop from places k None
    ∙ ap (λ at. get_or places at None) (omega arith) ∙ sym (cell_at places r k row_to (omega arith)))

-- two lists without cells before and after some places agree where they agree at these
pub same_places : (xs ys : List (Option DCell)) (from to : ℕ) → length xs ≡ 1024 → length ys ≡ 1024
    → AllWithin (λ cell. cell ≡ None) xs 0 from → AllWithin (λ cell. cell ≡ None) ys 0 from
    → AllWithin (λ cell. cell ≡ None) xs to 1024 → AllWithin (λ cell. cell ≡ None) ys to 1024
    → ((k : ℕ) (d : Option DCell) → from ≤ k → k < to → get_or xs k d ≡ get_or ys k d) → xs ≡ ys
same_places xs ys from to long as_long above other_above below other_below agree =
    same_lists xs ys (long ∙ sym as_long) (λ k d within. elim (cases_lt k from) [
      | inl before ↦ above k d (omega arith) before ∙ sym (other_above k d (omega arith) before)
      | inr past ↦ elim (cases_lt k to) [
        | inl at ↦ agree k d past at
        | inr behind ↦ below k d behind (omega arith) ∙ sym (other_below k d behind (omega arith))
      ]
    ])

-- an element of a part
part_at : (xs : List (Option DCell)) (from to k : ℕ) (d : Option DCell) → from ≤ k → k < to → get_or (take (to - from) (drop from xs)) (k - from) d ≡ get_or xs k d
part_at xs from to k d past within =
    get_or-take (to - from) (drop from xs) (k - from) d (omega arith) ∙ get_or-drop from xs (k - from) d ∙ ap (λ at. get_or xs at d) (omega arith)

-- a list becomes another one where what stands at the places that can have cells is copied
pub copied_is : (was other places : List (Option DCell)) (from to : ℕ) → length other ≡ 1024 → length places ≡ 1024
    → AllWithin (λ cell. cell ≡ None) was 0 from → AllWithin (λ cell. cell ≡ None) other 0 from
    → AllWithin (λ cell. cell ≡ None) was to 1024 → AllWithin (λ cell. cell ≡ None) other to 1024
    → CopiedTo other places from from (to - from) → SameBelow was places from → SameFrom was places to → places ≡ other
copied_is was other places from to as_long long above other_above below other_below copied same_above same_below =
    same_places places other from to long as_long
    (λ k d least before. same_above k d before ∙ above k d least before) other_above
    (λ k d past most. same_below k d past ∙ below k d past most) other_below
    (λ k d past within. copied k d past (omega arith) ∙ ap (λ at. get_or other at d) (omega arith))

-- lists of the same cells are one
pub same_list : (xs ys : List (Option DCell)) → length xs ≡ 1024 → length ys ≡ 1024 → listed_cells xs ≡ listed_cells ys → xs ≡ ys
same_list xs ys long as_long same =
    ext_get_or None xs ys (long ∙ sym as_long) (λ k within.
    let col : k % 64 < 64 = omega arith in
    let at : k / 64 * 64 + k % 64 ≡ k = omega arith in
    ap (λ n. get_or xs n None) (sym at) ∙ sym (cell_at xs (k / 64) (k % 64) (omega arith) col)
    ∙ ap (λ cells. cells (k / 64) (k % 64)) same
    ∙ cell_at ys (k / 64) (k % 64) (omega arith) col ∙ ap (λ n. get_or ys n None) at)

-- a test of the parts that can have cells says whether the cells are the same
pub parts_same : (xs ys : List (Option DCell)) (from to : ℕ) (r : Bool) → length xs ≡ 1024 → length ys ≡ 1024
    → AllWithin (λ cell. cell ≡ None) xs 0 from → AllWithin (λ cell. cell ≡ None) ys 0 from
    → AllWithin (λ cell. cell ≡ None) xs to 1024 → AllWithin (λ cell. cell ≡ None) ys to 1024
    → Decides r (take (to - from) (drop from xs) ≡ take (to - from) (drop from ys)) → Decides r (listed_cells xs ≡ listed_cells ys)
parts_same xs ys from to r long as_long above other_above below other_below (same, one) = (
  λ equal. ap listed_cells (same_places xs ys from to long as_long above other_above below other_below
      (λ k d past within. sym (part_at xs from to k d past within) ∙ ap (λ zs. get_or zs (k - from) d) (same equal) ∙ part_at ys from to k d past within)),
  λ cells. one (ap (λ zs. take (to - from) (drop from zs)) (same_list xs ys long as_long cells)),
)

-- what the negation of a test says
pub told_same : (b : Bool) {P : Type 0} → Decides b P → not b ≡ false → P
told_same true (same, one) told = same refl
told_same false (same, one) told = absurd (cc)

pub told_other : (b : Bool) {P : Type 0} → Decides b P → not b ≡ true → P → ⊥
told_other true (same, one) told p = cc
told_other false (same, one) told p = let e = one p in cc

-- where no place can have a cell, the cells are the same
pub same_where_none : (xs ys : List (Option DCell)) (from to : ℕ) → length xs ≡ 1024 → length ys ≡ 1024
    → AllWithin (λ cell. cell ≡ None) xs 0 from → AllWithin (λ cell. cell ≡ None) ys 0 from
    → AllWithin (λ cell. cell ≡ None) xs to 1024 → AllWithin (λ cell. cell ≡ None) ys to 1024
    → to ≤ from → listed_cells xs ≡ listed_cells ys
same_where_none xs ys from to long as_long above other_above below other_below empty =
    ap listed_cells (same_places xs ys from to long as_long above other_above below other_below (λ k d past within. absurd (omega arith)))
