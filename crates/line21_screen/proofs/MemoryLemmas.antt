-- What the bounds of a memory's cells say of its grid, and when two memories have the same cells.
use Rattle.std.proofs.Common.{◌≡◌, ℕ, ◌+◌, ◌-◌, ◌*◌, ◌<◌, ◌≤◌, true, List, Option, None, get_or, length, take, drop, refl, sym, ap, ◌∙◌, arith, inl, inr}
use Rattle.std.proofs.lemmas.Bool.{cases_lt}
use Rattle.std.proofs.lemmas.List.{get_or-drop, get_or-take, length-drop, length-take, same_lists}
use Rattle.std.proofs.lemmas.List.FromFn.{fill_by_all}
use Rattle.std.specs.List.{AllWithin, CopiedTo, SameBelow, SameFrom}
use Rattle.line21_codes.specs.declared.styles.Cell.{Cell}
use Rattle.line21_screen.specs.Grid.{in_grid, row_cells}
use Rattle.line21_screen.specs.Objects.{place, grid_of}
use Rattle.line21_screen.proofs.GridLemmas.{cell_at, chosen, col_to, row_from, row_to}

-- a place has no cell where the list has none there
none_at : (cells : List (Option Cell)) (r c : ℕ) → (in_grid r c ≡ true → get_or cells (place r c) None ≡ None) → grid_of cells r c ≡ None
unfolding grid_of
none_at cells r c none = chosen (in_grid r c) (get_or cells (place r c) None) None none (λ outside. refl)

-- no row that ends at the first place or before it has a cell
pub none_before : (cells : List (Option Cell)) (first r c : ℕ) → AllWithin (λ cell. cell ≡ None) cells 0 first → r * 32 ≤ first → grid_of cells r c ≡ None
none_before cells first r c none above =
    none_at cells r c (λ inside. none (place r c) None (omega arith) (omega (arith, row_from r c inside, col_to r c inside)))

-- and no row that begins at the place after the last one or after it
pub none_behind : (cells : List (Option Cell)) (behind r c : ℕ) → AllWithin (λ cell. cell ≡ None) cells behind 480 → behind ≤ (r - 1) * 32 → grid_of cells r c ≡ None
none_behind cells behind r c none below =
    none_at cells r c (λ inside. none (place r c) None (omega arith) (omega (arith, row_from r c inside, row_to r c inside, col_to r c inside)))

-- no place has a cell where the first one isn't before the one after the last
pub none_at_all : (cells : List (Option Cell)) (first behind r c : ℕ) → AllWithin (λ cell. cell ≡ None) cells 0 first → AllWithin (λ cell. cell ≡ None) cells behind 480 → behind ≤ first → grid_of cells r c ≡ None
none_at_all cells first behind r c none_above none_below empty =
    none_at cells r c (λ inside. elim (cases_lt (place r c) first) [
      | inl before ↦ none_above (place r c) None (omega arith) before
      | inr past ↦ none_below (place r c) None (omega arith) (omega (arith, row_from r c inside, row_to r c inside, col_to r c inside))
    ])

-- the part of the list at a row is what stands in the row
pub row_is : (cells : List (Option Cell)) (r from to : ℕ) → length cells ≡ 480 → 1 ≤ r → r ≤ 15 → from ≡ (r - 1) * 32 → to ≡ from + 32 → take (to - from) (drop from cells) ≡ row_cells (grid_of cells) r
unfolding row_cells
row_is cells r from to long row_from row_to is_from is_to =
    fill_by_all (λ col. grid_of cells r col) (take (to - from) (drop from cells)) 32 None
    (simp (length-take, length-drop) (omega arith))
    (λ k within. get_or-take (to - from) (drop from cells) k None (omega arith) ∙ get_or-drop from cells k None
    ∙ ap (λ at. get_or cells at None) (omega arith) ∙ sym (cell_at cells r k row_from row_to within))

-- two lists without cells before and after some places agree where they agree at these
pub same_cells : (xs ys : List (Option Cell)) (from to : ℕ) → length xs ≡ 480 → length ys ≡ 480
    → AllWithin (λ cell. cell ≡ None) xs 0 from → AllWithin (λ cell. cell ≡ None) ys 0 from
    → AllWithin (λ cell. cell ≡ None) xs to 480 → AllWithin (λ cell. cell ≡ None) ys to 480
    → ((k : ℕ) (d : Option Cell) → from ≤ k → k < to → get_or xs k d ≡ get_or ys k d) → xs ≡ ys
same_cells xs ys from to long as_long above other_above below other_below agree =
    same_lists xs ys (long ∙ sym as_long) (λ k d within. elim (cases_lt k from) [
      | inl before ↦ above k d (omega arith) before ∙ sym (other_above k d (omega arith) before)
      | inr past ↦ elim (cases_lt k to) [
        | inl at ↦ agree k d past at
        | inr behind ↦ below k d behind (omega arith) ∙ sym (other_below k d behind (omega arith))
      ]
    ])

-- an element of a part
pub part_at : (xs : List (Option Cell)) (from to k : ℕ) (d : Option Cell) → from ≤ k → k < to → get_or (take (to - from) (drop from xs)) (k - from) d ≡ get_or xs k d
part_at xs from to k d past within =
    get_or-take (to - from) (drop from xs) (k - from) d (omega arith) ∙ get_or-drop from xs (k - from) d ∙ ap (λ at. get_or xs at d) (omega arith)

-- a list becomes another one where what stands at the places that can have cells is copied
pub copied_is : (was other cells : List (Option Cell)) (from to : ℕ) → length other ≡ 480 → length cells ≡ 480
    → AllWithin (λ cell. cell ≡ None) was 0 from → AllWithin (λ cell. cell ≡ None) other 0 from
    → AllWithin (λ cell. cell ≡ None) was to 480 → AllWithin (λ cell. cell ≡ None) other to 480
    → CopiedTo other cells from from (to - from) → SameBelow was cells from → SameFrom was cells to → cells ≡ other
copied_is was other cells from to as_long long above other_above below other_below copied same_above same_below =
    same_cells cells other from to long as_long
    (λ k d least before. same_above k d before ∙ above k d least before) other_above
    (λ k d past most. same_below k d past ∙ below k d past most) other_below
    (λ k d past within. copied k d past (omega arith) ∙ ap (λ at. get_or other at d) (omega arith))
