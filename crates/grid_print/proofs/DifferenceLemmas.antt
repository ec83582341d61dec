-- Windows differ just where they aren't shown alike.
use Rattle.std.proofs.Common.{◌≡◌, ◌≢◌, if◌then◌else◌, ◌<◌, ◌+◌, ℕ, zero, suc, not, ◌&&◌, Bool, true, false, Option, Some, None, get_or, refl, sym, ap, ◌∙◌, subst, zero-add, arith, inl, inr}
use Rattle.std.proofs.Math.Path.{fun_ext}
use Rattle.std.proofs.lemmas.Bool.{cases_Bool, not-false, true≢false}
use Rattle.std.proofs.lemmas.List.Folds.{list_all_at}
use Rattle.std.proofs.lemmas.List.FromFn.{get_or-range_with_len, length-range_with_len}
use Rattle.std.proofs.lemmas.Bool.Decides.{Decides-and, Decides-eqb, Decides-like, nat_tests}
use Rattle.std.specs.Bool.{Decides}
use Rattle.std.specs.Cmp.{booleans_Decides}
use Rattle.std.specs.List.{list_all, range_with_len}
use Rattle.dtvcc_codes.specs.declared.pens.PenAttr.{PenAttr}
use Rattle.dtvcc_codes.specs.declared.pens.PenColors.{PenColors}
use Rattle.dtvcc_codes.specs.declared.windows.WinAttr.{WinAttr}
use Rattle.dtvcc_windows.specs.declared.cells.DCell.{DCell}
use Rattle.dtvcc_windows.specs.Places.{Cells}
use Rattle.dtvcc_windows.specs.declared.window.Window.{Window}
use Rattle.dtvcc_windows.specs.Objects.{state_of, window_of}
use Rattle.dtvcc_windows.specs.Showing.{ShownWindow, shown}
use Rattle.dtvcc_windows.specs.Windows.{WindowState}
use Rattle.dtvcc_windows.specs.Sizes.{IsWithin, in_size}
use Rattle.grid_print.specs.Differences.{differs, same_attributes, same_place, same_window_cell}
use Rattle.grid_print.proofs.AlikeLemmas.{Decides-alike}
use Rattle.dtvcc_windows.proofs.SameLemmas.{Decides-attributes}

-- cells of the same parts are one
cell_of : ℕ → PenAttr → PenColors → DCell
cell_of ch pen colors = record { ch = ch; pen = pen; colors = colors }

cell_parts : (a : DCell) → cell_of a.ch a.pen a.colors ≡ a
unfolding cell_of
cell_parts a = refl

one_cell : (a b : DCell) → (a.ch ≡ b.ch) × ((a.pen ≡ b.pen) × (a.colors ≡ b.colors)) → a ≡ b
one_cell a b (ch, (pen, colors)) = cc (cell_parts a, cell_parts b)

Decides-cell : (a b : Option DCell) → Decides (same_window_cell a b) (a ≡ b)
Decides-cell None None = (λ same. refl, λ one. refl)
Decides-cell None (Some b) = (λ same. cc, λ one. cc)
Decides-cell (Some a) None = (λ same. cc, λ one. cc)
Decides-cell (Some a) (Some b) =
    Decides-like _ (λ parts. ap Some (one_cell a b parts))
    (λ one. let inner : a ≡ b = cc in (ap (λ (c : DCell). c.ch) inner, (ap (λ (c : DCell). c.pen) inner, ap (λ (c : DCell). c.colors) inner)))
    (Decides-and _ _ (Decides-eqb a.ch b.ch) (Decides-alike a b))

-- a test that holds of each number below another
each_of : (test : ℕ → Bool) (count : ℕ) → list_all test (range_with_len 0 count) ≡ true → (k : ℕ) → k < count → test k ≡ true
each_of test count all k within = elim (cases_Bool (test k)) [
  | inl holds ↦ holds
  | inr fails ↦
      let at : get_or (range_with_len 0 count) k 0 ≡ k = get_or-range_with_len 0 count k 0 within ∙ zero-add k in
      absurd (true≢false (sym all ∙ list_all_at test (range_with_len 0 count) k 0 (rw (length-range_with_len 0 count) within) (ap test at ∙ fails)))
]

all_of : (test : ℕ → Bool) (from count : ℕ) → ((k : ℕ) → k < from + count → test k ≡ true) → list_all test (range_with_len from count) ≡ true
all_of test from zero each = refl
all_of test from (suc count) each =
    rw (each from (omega arith)) (all_of test (from + 1) count (λ k within. each k (omega arith)))

-- the same cell stands at each place of this many rows and columns
abbrev same_cells : ℕ → ℕ → Cells → Cells → Bool
same_cells rows cols a b = list_all (λ row. list_all (λ col. same_window_cell (a row col) (b row col)) (range_with_len 0 cols)) (range_with_len 0 rows)

Decides-cells : (rows cols : ℕ) (a b : Cells) → Decides (same_cells rows cols a b) ((row col : ℕ) → row < rows → col < cols → a row col ≡ b row col)
Decides-cells rows cols a b = (
  λ same row col in_row in_col.
      (Decides-cell (a row col) (b row col)).0 (each_of (λ col. same_window_cell (a row col) (b row col)) cols
      (each_of (λ row. list_all (λ col. same_window_cell (a row col) (b row col)) (range_with_len 0 cols)) rows same row in_row) col in_col),
  λ one. all_of (λ row. list_all (λ col. same_window_cell (a row col) (b row col)) (range_with_len 0 cols)) 0 rows
      (λ row in_row. all_of (λ col. same_window_cell (a row col) (b row col)) 0 cols
      (λ col in_col. (Decides-cell (a row col) (b row col)).1 (one row col (omega arith) (omega arith)))),
)

-- the place, the size, the locks and the priority
Place : ShownWindow → ShownWindow → Type 0
Place a b =
    (a.relative ≡ b.relative) × ((a.av ≡ b.av) × ((a.ah ≡ b.ah) × ((a.anchor ≡ b.anchor) × ((a.rows ≡ b.rows) × ((a.cols ≡ b.cols)
    × ((a.row_lock ≡ b.row_lock) × ((a.col_lock ≡ b.col_lock) × (a.priority ≡ b.priority))))))))

Decides-place : (a b : ShownWindow) → Decides (same_place a b) (Place a b)
unfolding Place
Decides-place a b =
    Decides-and _ _ (booleans_Decides a.relative b.relative) (Decides-and _ _ (Decides-eqb a.av b.av) (Decides-and _ _ (Decides-eqb a.ah b.ah)
    (Decides-and _ _ (Decides-eqb a.anchor b.anchor) (Decides-and _ _ (Decides-eqb a.rows b.rows) (Decides-and _ _ (Decides-eqb a.cols b.cols)
    (Decides-and _ _ (booleans_Decides a.row_lock b.row_lock) (Decides-and _ _ (booleans_Decides a.col_lock b.col_lock) (Decides-eqb a.priority b.priority))))))))

-- two windows are shown alike
abbrev same_shown_window : ShownWindow → ShownWindow → Bool
same_shown_window a b = same_place a b && (same_attributes a.attributes b.attributes && same_cells a.rows a.cols a.cells b.cells)

Decides-window : (a b : ShownWindow)
    → Decides (same_shown_window a b) (Place a b × ((a.attributes ≡ b.attributes) × ((row col : ℕ) → row < a.rows → col < a.cols → a.cells row col ≡ b.cells row col)))
Decides-window a b =
    Decides-and _ _ (Decides-place a b) (Decides-and _ _ (Decides-attributes a.attributes b.attributes) (Decides-cells a.rows a.cols a.cells b.cells))

-- a window is as itself
same-itself : (a : ShownWindow) → same_shown_window a a ≡ true
unfolding Place
same-itself a = (Decides-window a a).1 ((refl, (refl, (refl, (refl, (refl, (refl, (refl, (refl, refl)))))))), (refl, λ row col in_row in_col. refl))

-- windows of the same parts are one
window_of_parts : Bool → ℕ → ℕ → ℕ → ℕ → ℕ → Bool → Bool → ℕ → WinAttr → Cells → ShownWindow
window_of_parts relative av ah anchor rows cols row_lock col_lock priority attributes cells =
    record { relative = relative; av = av; ah = ah; anchor = anchor; rows = rows; cols = cols; row_lock = row_lock; col_lock = col_lock; priority = priority; attributes = attributes; cells = cells }

window_parts : (a : ShownWindow) → window_of_parts a.relative a.av a.ah a.anchor a.rows a.cols a.row_lock a.col_lock a.priority a.attributes a.cells ≡ a
unfolding window_of_parts
window_parts a = refl

one_window : (a b : ShownWindow) → Place a b → a.attributes ≡ b.attributes → a.cells ≡ b.cells → a ≡ b
unfolding Place
one_window a b (relative, (av, (ah, (anchor, (rows, (cols, (row_lock, (col_lock, priority)))))))) attributes cells = cc (window_parts a, window_parts b)

-- what lies in a size
inside : (rows cols row col : ℕ) → in_size rows cols row col ≡ true → (row < rows) × (col < cols)
inside rows cols row col is =
    let in_row : row < rows = grind (arith, nat_tests) in
    let in_col : col < cols = grind (arith, nat_tests) in
    (in_row, in_col)

-- windows whose cells stand within their sizes are one where they are the same
same_cells_within : (rows cols : ℕ) (a b : Cells) → IsWithin rows cols a → IsWithin rows cols b
    → ((row col : ℕ) → row < rows → col < cols → a row col ≡ b row col) → a ≡ b
same_cells_within rows cols a b within within_too same =
    fun_ext (λ row. fun_ext (λ col. elim (cases_Bool (in_size rows cols row col)) [
      | inl here ↦ let (in_row, in_col) = inside rows cols row col here in same row col in_row in_col
      | inr past ↦ within row col past ∙ sym (within_too row col past)
    ]))

-- the rows and the columns of two windows of one place
Place-rows : (a b : ShownWindow) → Place a b → (a.rows ≡ b.rows) × (a.cols ≡ b.cols)
unfolding Place
Place-rows a b (relative, (av, (ah, (anchor, (rows, (cols, rest)))))) = (rows, cols)

pub same_is_one : (a b : ShownWindow) → IsWithin a.rows a.cols a.cells → IsWithin b.rows b.cols b.cells → same_shown_window a b ≡ true → a ≡ b
same_is_one a b within within_too same =
    let (place, (attributes, cells)) = (Decides-window a b).0 same in
    let (rows, cols) = Place-rows a b place in
    one_window a b place attributes
    (same_cells_within a.rows a.cols a.cells b.cells within (subst (λ n. IsWithin n a.cols b.cells) (sym rows) (subst (λ n. IsWithin b.rows n b.cells) (sym cols) within_too)) cells)

-- nothing differs from itself
pub differs-itself : (o : Option ShownWindow) → differs o o ≡ false
unfolding differs
differs-itself None = refl
differs-itself (Some a) = ap not (same-itself a)

-- and windows that don't differ are one
pub one_where_same : (a b : ShownWindow) → IsWithin a.rows a.cols a.cells → IsWithin b.rows b.cols b.cells → differs (Some a) (Some b) ≡ false → a ≡ b
unfolding differs
one_where_same a b within within_too none = same_is_one a b within within_too (not-false (same_shown_window a b) none)

-- what stands within its size, where there is something
IsWithinSize : Option ShownWindow → Type 0
IsWithinSize None = Unit {0}
IsWithinSize (Some a) = IsWithin a.rows a.cols a.cells

shown_within : (live visible : Bool) (w : WindowState) → w.visible ≡ visible → IsWithin w.definition.rows w.definition.cols w.cells
    → IsWithinSize (shown (if live then Some w else None))
unfolding IsWithinSize
shown_within false visible w is within = tt
shown_within true false w is within = rw is tt
shown_within true true w is within = rw is within

same_where_none : (o p : Option ShownWindow) → IsWithinSize o → IsWithinSize p → differs o p ≡ false → o ≡ p
unfolding differs IsWithinSize
same_where_none None None within within_too none = refl
same_where_none None (Some b) within within_too none = absurd (true≢false none)
same_where_none (Some a) None within within_too none = absurd (true≢false none)
same_where_none (Some a) (Some b) within within_too none = ap Some (same_is_one a b within within_too (not-false (same_shown_window a b) none))

shown_one : (one other : Window) → differs (shown (window_of one)) (shown (window_of other)) ≡ false → shown (window_of one) ≡ shown (window_of other)
shown_one one other none =
    same_where_none (shown (window_of one)) (shown (window_of other)) (shown_within one.live one.visible (state_of one) refl one.within)
    (shown_within other.live other.visible (state_of other) refl other.within) none

-- a test that is false only where the same is shown, and true only where something else is, is `differs`
pub told_by : (one other : Window) (told : Bool)
    → (told ≡ false → shown (window_of one) ≡ shown (window_of other)) → (told ≡ true → shown (window_of one) ≢ shown (window_of other))
    → told ≡ differs (shown (window_of one)) (shown (window_of other))
told_by one other false same apart = sym (subst (λ o. differs (shown (window_of one)) o ≡ false) (same refl) (differs-itself (shown (window_of one))))
told_by one other true same apart = elim (cases_Bool (differs (shown (window_of one)) (shown (window_of other)))) [
  | inl differ ↦ sym differ
  | inr same_too ↦ absurd (apart refl (shown_one one other same_too))
]
