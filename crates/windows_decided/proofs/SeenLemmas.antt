-- Whether two windows are seen alike is decided, where their cells stand in bounds.
use Rattle.std.proofs.Common.{◌≡◌, ◌∙◌, ◌+◌, ◌<◌, ap, arith, inl, inr, refl, sym, true, ℕ, Option, Some, None}
use Rattle.std.proofs.Math.Path.{fun_ext}
use Rattle.std.proofs.lemmas.Bool.{cases_lt}
use Rattle.dtvcc_codes.specs.declared.windows.Definition.{Definition}
use Rattle.dtvcc_codes.specs.declared.windows.WinAttr.{WinAttr}
use Rattle.dtvcc_windows.proofs.SameLemmas.{Decides-attributes, Decides-definition, Decides-place}
use Rattle.dtvcc_windows.specs.Places.{Cells}
use Rattle.dtvcc_windows.specs.Showing.{ShownWindow}
use Rattle.windows_decided.proofs.BoundLemmas.{HasBound, IsBound, IsSeenBounded, events_bound}
use Rattle.windows_decided.proofs.FirstLemmas.{all_decided, decided_by}
use Rattle.windows_decided.specs.Decided.{Decided, WindowsAreDecided}

-- cells in one bound
module _ (n : ℕ) (a b : Cells) (one : IsBound n a) (other : IsBound n b) where
  abbrev SameRow : ℕ → Type 0
  SameRow row = (col : ℕ) → col < n → a row col ≡ b row col

  row_decided : (row : ℕ) → Decided (SameRow row)
  row_decided row = all_decided (λ col. a row col ≡ b row col) (λ col. decided_by _ (Decides-place (a row col) (b row col))) n

  same_at : ((row : ℕ) → row < n → SameRow row) → (row col : ℕ) → a row col ≡ b row col
  same_at all row col = elim (cases_lt row n) [
    | inr below ↦ one row col (omega (arith, below)) ∙ sym (other row col (omega (arith, below)))
    | inl in_row ↦ elim (cases_lt col n) [
      | inr right ↦ one row col (omega (arith, right)) ∙ sym (other row col (omega (arith, right)))
      | inl in_col ↦ all row in_row col in_col
    ]
  ]

  cells_decided : Decided (a ≡ b)
  cells_decided = elim (all_decided SameRow row_decided n) [
    | inl all ↦ inl (fun_ext (λ row. fun_ext (λ col. same_at all row col)))
    | inr others ↦ inr (λ is. others (λ row in_row col in_col. ap (λ (cells : Cells). cells row col) is))
  ]

-- what is seen of a window but its attributes and cells, in a definition
part_of : ShownWindow → Definition
part_of a = record {
  id = 0;
  visible = true;
  row_lock = a.row_lock;
  col_lock = a.col_lock;
  priority = a.priority;
  relative = a.relative;
  av = a.av;
  ah = a.ah;
  anchor = a.anchor;
  rows = a.rows;
  cols = a.cols;
  ws = 0;
  ps = 0;
}

window_of : Definition → WinAttr → Cells → ShownWindow
window_of d attributes cells = record {
  relative = d.relative;
  av = d.av;
  ah = d.ah;
  anchor = d.anchor;
  rows = d.rows;
  cols = d.cols;
  row_lock = d.row_lock;
  col_lock = d.col_lock;
  priority = d.priority;
  attributes = attributes;
  cells = cells;
}

window_parts : (a : ShownWindow) → window_of (part_of a) a.attributes a.cells ≡ a
unfolding part_of window_of
window_parts a = refl

window_decided : (a b : ShownWindow) → HasBound a.cells → HasBound b.cells → Decided (a ≡ b)
window_decided a b (m, one) (n, other) = elim (decided_by _ (Decides-definition (part_of a) (part_of b))) [
  | inr parts ↦ inr (λ is. parts (ap part_of is))
  | inl parts ↦ elim (decided_by _ (Decides-attributes a.attributes b.attributes)) [
    | inr attributes ↦ inr (λ is. attributes (ap (λ (w : ShownWindow). w.attributes) is))
    | inl attributes ↦ elim (cells_decided (m + n) a.cells b.cells (λ row col far. one row col (omega (arith, far))) (λ row col far. other row col (omega (arith, far)))) [
      | inr cells ↦ inr (λ is. cells (ap (λ (w : ShownWindow). w.cells) is))
      | inl cells ↦ inl (sym (window_parts a) ∙ (rw (parts, attributes, cells) refl) ∙ window_parts b)
    ]
  ]
]

pub seen_decided : (o p : Option ShownWindow) → IsSeenBounded o → IsSeenBounded p → Decided (o ≡ p)
seen_decided None None one other = inl refl
seen_decided None (Some b) one other = inr (λ is. let clash : None ≡ Some b = is in cc)
seen_decided (Some a) None one other = inr (λ is. let clash : Some a ≡ None = is in cc)
seen_decided (Some a) (Some b) one other = elim (window_decided a b one other) [
  | inl same ↦ inl (ap Some same)
  | inr others ↦ inr (λ is. let both : Some a ≡ Some b = is in let same : a ≡ b = cc in others same)
]

pub windows_decided : WindowsAreDecided
windows_decided events others id = seen_decided _ _ (events_bound events id) (events_bound others id)
