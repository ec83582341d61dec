-- When two windows are shown alike.
use Rattle.std.proofs.Common.{◌≡◌, Bool, true, false, if◌then◌else◌, Some, None, is_some, refl, sym, ◌∙◌}
use Rattle.dtvcc_codes.specs.declared.windows.Definition.{Definition}
use Rattle.dtvcc_codes.specs.declared.windows.WinAttr.{WinAttr}
use Rattle.dtvcc_windows.specs.Places.{Cells}
use Rattle.dtvcc_windows.specs.Showing.{ShownWindow, as_shown, shown}
use Rattle.dtvcc_windows.specs.Windows.{WindowState}

-- what is seen of a definition, attributes and cells
shown_with : Definition → WinAttr → Cells → ShownWindow
shown_with d attributes cells = record {
  relative = d.relative;
  av = d.av;
  ah = d.ah;
  anchor = d.anchor;
  rows = d.rows;
  cols = d.cols;
  row_lock = d.row_lock;
  col_lock = d.col_lock;
  priority = d.priority;
  attributes = attributes;
  cells = cells;
}

-- it is the same without the id, the visibility and the numbers of the styles
as_shown-seen : (w : WindowState) → as_shown w ≡ shown_with (record w.definition { id = 0; visible = true; ws = 0; ps = 0 }) w.attributes w.cells
unfolding shown_with
as_shown-seen w = refl

-- a choice that is something
chosen_some : {A : Type 0} (b : Bool) (x : A) → is_some (if b then Some x else None) ≡ true → (if b then Some x else None) ≡ Some x
chosen_some true x some = refl
chosen_some false x some = cc

-- a window of which something is seen
pub shown-some : (live : Bool) (w : WindowState) → is_some (shown (if live then Some w else None)) ≡ true → shown (if live then Some w else None) ≡ Some (as_shown w)
shown-some true w some = chosen_some w.visible (as_shown w) some
shown-some false w some = cc

-- two windows of the same parts are shown alike
pub as_shown-same : (a b : WindowState) → record a.definition { id = 0; visible = true; ws = 0; ps = 0 } ≡ record b.definition { id = 0; visible = true; ws = 0; ps = 0 } → a.attributes ≡ b.attributes → a.cells ≡ b.cells → as_shown a ≡ as_shown b
as_shown-same a b definitions attributes cells = as_shown-seen a ∙ (rw (definitions, attributes, cells) refl) ∙ sym (as_shown-seen b)
