-- What the tests say by which cells are the same and grids differ.
use Rattle.std.proofs.Common.{◌≡◌, ◌≢◌, ℕ, ◌+◌, ◌-◌, ◌*◌, ◌/◌, ◌%◌, ◌<◌, ◌≤◌, take, drop, zero-add, not, Bool, true, false, List, Option, Some, None, get_or, length, refl, sym, ap, ◌∙◌, arith, inl, inr}
use Rattle.std.proofs.lemmas.Bool.{cases_Bool, not-true, true≢false}
use Rattle.std.proofs.lemmas.Bool.Decides.{Decides-and, Decides-eqb, Decides-like}
use Rattle.std.proofs.lemmas.List.{ext_get_or}
use Rattle.std.proofs.lemmas.List.Folds.{Any-from_list_any, list_any_at}
use Rattle.std.proofs.lemmas.List.FromFn.{get_or-range_with_len}
use Rattle.std.specs.Bool.{Decides}
use Rattle.std.specs.Cmp.{booleans_Decides}
use Rattle.std.specs.List.{AllWithin, list_any}
use Rattle.std.specs.Option.{option_eq}
use Rattle.line21_codes.specs.contracts.styles.CellPartialEq.TheImpl.{eq-value}
use Rattle.line21_codes.specs.declared.styles.Cell.{Cell}
use Rattle.line21_codes.proofs.SameStyleLemmas.{Decides-same_style, Decides-sameb, same_parts}
use Rattle.line21_codes.specs.declared.styles.Style.{Style}
use Rattle.line21_screen.specs.Differences.{HasOther, grid_differs, same_cell}
use Rattle.line21_screen.specs.Grid.{Grid, columns, in_grid, rows}
use Rattle.line21_screen.specs.Objects.{grid_of}
use Rattle.line21_screen.proofs.GridLemmas.{cell_at, col_to, is_inside, row_from, row_to}
use Rattle.line21_screen.proofs.MemoryLemmas.{part_at, same_cells}

-- a cell of its parts
cell_of : ℕ → Style → Cell
cell_of ch style = record { ch = ch; style = style }

cell_of-parts : (c : Cell) → cell_of c.ch c.style ≡ c
unfolding cell_of
cell_of-parts c = refl

-- cells of the same parts are one
cell_parts : (a b : Cell) → (a.ch ≡ b.ch) × (a.style ≡ b.style) → a ≡ b
cell_parts a b (ch, style) = cc (cell_of-parts a, cell_of-parts b)

-- and cells
Decides-same_cell : (a b : Option Cell) → Decides (same_cell a b) (a ≡ b)
unfolding same_cell
Decides-same_cell None None = (λ same. refl, λ one. refl)
Decides-same_cell None (Some b) = (λ same. cc, λ one. cc)
Decides-same_cell (Some a) None = (λ same. cc, λ one. cc)
Decides-same_cell (Some a) (Some b) =
    Decides-like _ (λ parts. ap Some (cell_parts a b parts)) (λ one. let inner : a ≡ b = cc in (ap (λ (c : Cell). c.ch) inner, ap (λ (c : Cell). c.style) inner))
    (Decides-and _ _ (Decides-eqb a.ch b.ch) (Decides-same_style a.style b.style))

-- the code's test of cells
Decides-eq : (a b : Cell) → Decides (eq-value.it a b) (a ≡ b)
Decides-eq a b =
    Decides-like _ (λ (ch, (colour, (italic, underline))). cell_parts a b (ch, same_parts a.style b.style ((colour, italic), underline)))
    (λ one. (ap (λ (c : Cell). c.ch) one, (ap (λ (c : Cell). c.style.colour) one, (ap (λ (c : Cell). c.style.italic) one, ap (λ (c : Cell). c.style.underline) one))))
    (Decides-and _ _ (Decides-eqb a.ch b.ch) (Decides-and _ _ (Decides-sameb a.style.colour b.style.colour) (Decides-and _ _ (booleans_Decides a.style.italic b.style.italic) (booleans_Decides a.style.underline b.style.underline))))

-- and of what stands at a place
pub Decides-option_eq : (a b : Option Cell) → Decides (option_eq eq-value.it a b) (a ≡ b)
Decides-option_eq None None = (λ same. refl, λ one. refl)
Decides-option_eq None (Some b) = (λ same. cc, λ one. cc)
Decides-option_eq (Some a) None = (λ same. cc, λ one. cc)
Decides-option_eq (Some a) (Some b) =
    Decides-like _ (λ one. ap Some one) (λ one. let inner : a ≡ b = cc in inner) (Decides-eq a b)

-- what a test says where the fact fails
fails : (b : Bool) (P : Type 0) → Decides b P → (P → ⊥) → b ≡ false
fails true P (holds, _) not = absurd (not (holds refl))
fails false P decides not = refl

-- a column with another cell, in a row
other_in_row : (old new : Grid) (row : ℕ) → list_any (λ col. not (same_cell (old row col) (new row col))) columns ≡ true → (col : ℕ) × (col < 32) × (old row col ≢ new row col)
other_in_row old new row any =
    let (k, col, within, at, differ) = Any-from_list_any (λ col. not (same_cell (old row col) (new row col))) columns any in
    let is : col ≡ k = sym at ∙ get_or-range_with_len 0 32 k col within ∙ zero-add k in
    (col, omega arith, λ same. let b = (Decides-same_cell (old row col) (new row col)).1 same in let c = not-true _ differ in cc)

-- a place with another cell, where grids differ
has_other : (old new : Grid) → grid_differs old new ≡ true → HasOther old new
unfolding grid_differs
has_other old new any =
    let (k, row, within, at, differ) = Any-from_list_any (λ row. list_any (λ col. not (same_cell (old row col) (new row col))) columns) rows any in
    let is : row ≡ 1 + k = sym at ∙ get_or-range_with_len 1 15 k row within in
    let (col, to, other) = other_in_row old new row differ in
    record { row = row; col = col; inside = is_inside row col (omega arith) (omega arith) to; other = other }

-- and the other way
other_differs : (old new : Grid) → HasOther old new → grid_differs old new ≡ true
unfolding grid_differs
other_differs old new has =
    let from : 1 ≤ has.row = row_from has.row has.col has.inside in
    let to : has.row ≤ 15 = row_to has.row has.col has.inside in
    let col : has.col < 32 = col_to has.row has.col has.inside in
    let cells : not (same_cell (old has.row has.col) (new has.row has.col)) ≡ true =
    ap not (fails (same_cell (old has.row has.col) (new has.row has.col)) (old has.row has.col ≡ new has.row has.col) (Decides-same_cell (old has.row has.col) (new has.row has.col)) has.other) in
    let in_row : list_any (λ col. not (same_cell (old has.row col) (new has.row col))) columns ≡ true =
    list_any_at (λ col. not (same_cell (old has.row col) (new has.row col))) columns has.col 0 col
    (ap (λ c. not (same_cell (old has.row c) (new has.row c))) (get_or-range_with_len 0 32 has.col 0 col ∙ zero-add has.col) ∙ cells) in
    list_any_at (λ row. list_any (λ col. not (same_cell (old row col) (new row col))) columns) rows (has.row - 1) 0 (omega arith)
    (ap (λ r. list_any (λ col. not (same_cell (old r col) (new r col))) columns) (get_or-range_with_len 1 15 (has.row - 1) 0 (omega arith) ∙ omega arith) ∙ in_row)

-- the test says that some place has another cell
pub Decides-differs : (old new : Grid) → Decides (grid_differs old new) (HasOther old new)
Decides-differs old new = (has_other old new, other_differs old new)

-- a grid doesn't differ from itself
pub differs-itself : (g : Grid) → grid_differs g g ≡ false
differs-itself g = elim (cases_Bool (grid_differs g g)) [ inl differ ↦ absurd ((has_other g g differ).other refl) | inr same ↦ same ]

-- where no place has another cell, each has the same
same_at : (old new : Grid) (r c : ℕ) → grid_differs old new ≡ false → in_grid r c ≡ true → old r c ≡ new r c
same_at old new r c same inside = elim (cases_Bool (same_cell (old r c) (new r c))) [
  | inl one ↦ (Decides-same_cell (old r c) (new r c)).0 one
  | inr other ↦ absurd (true≢false (sym (other_differs old new (record { row = r; col = c; inside = inside; other = λ one. true≢false (sym ((Decides-same_cell (old r c) (new r c)).1 one) ∙ other) })) ∙ same))
]

-- lists whose grids don't differ are one
pub same_list : (xs ys : List (Option Cell)) → length xs ≡ 480 → length ys ≡ 480 → grid_differs (grid_of xs) (grid_of ys) ≡ false → xs ≡ ys
same_list xs ys long as_long same =
    ext_get_or None xs ys (long ∙ sym as_long) (λ k within.
    let col : k % 32 < 32 = omega arith in
    let at : (k / 32 + 1 - 1) * 32 + k % 32 ≡ k = omega arith in
    ap (λ n. get_or xs n None) (sym at) ∙ sym (cell_at xs (k / 32 + 1) (k % 32) (omega arith) (omega arith) col)
    ∙ same_at (grid_of xs) (grid_of ys) (k / 32 + 1) (k % 32) same (is_inside (k / 32 + 1) (k % 32) (omega arith) (omega arith) col)
    ∙ cell_at ys (k / 32 + 1) (k % 32) (omega arith) (omega arith) col ∙ ap (λ n. get_or ys n None) at)

-- a test of the parts that can have cells says whether the grids differ
pub parts_differ : (xs ys : List (Option Cell)) (from to : ℕ) (r : Bool) → length xs ≡ 480 → length ys ≡ 480
    → AllWithin (λ cell. cell ≡ None) xs 0 from → AllWithin (λ cell. cell ≡ None) ys 0 from
    → AllWithin (λ cell. cell ≡ None) xs to 480 → AllWithin (λ cell. cell ≡ None) ys to 480
    → Decides r (take (to - from) (drop from xs) ≡ take (to - from) (drop from ys)) → not r ≡ grid_differs (grid_of xs) (grid_of ys)
parts_differ xs ys from to true long as_long above other_above below other_below (same, _) =
    let lists : xs ≡ ys = same_cells xs ys from to long as_long above other_above below other_below
    (λ k d past within. sym (part_at xs from to k d past within) ∙ ap (λ zs. get_or zs (k - from) d) (same refl) ∙ part_at ys from to k d past within) in
    rw lists (sym (differs-itself (grid_of ys)))
parts_differ xs ys from to false long as_long above other_above below other_below (_, one) =
    elim (cases_Bool (grid_differs (grid_of xs) (grid_of ys))) [
      | inl differ ↦ sym differ
      | inr same ↦ absurd (true≢false (sym (one (ap (λ zs. take (to - from) (drop from zs)) (same_list xs ys long as_long same)))))
    ]

-- where no place can have a cell, the grids don't differ
pub same_where_none : (xs ys : List (Option Cell)) (from to : ℕ) → length xs ≡ 480 → length ys ≡ 480
    → AllWithin (λ cell. cell ≡ None) xs 0 from → AllWithin (λ cell. cell ≡ None) ys 0 from
    → AllWithin (λ cell. cell ≡ None) xs to 480 → AllWithin (λ cell. cell ≡ None) ys to 480
    → to ≤ from → grid_differs (grid_of xs) (grid_of ys) ≡ false
same_where_none xs ys from to long as_long above other_above below other_below empty =
    let lists : xs ≡ ys = same_cells xs ys from to long as_long above other_above below other_below (λ k d past within. absurd (omega arith)) in
    rw lists (differs-itself (grid_of ys))
