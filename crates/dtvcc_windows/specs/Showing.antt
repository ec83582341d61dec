-- Believed in part: the program's answer stands on some of these definitions.
-- What a viewer sees of a window: all of it but its id, its styles' numbers and its pen, and nothing of a
-- window that is hidden (CTA-708-E, caption windows).
use Rattle.std.specs.Prelude.{◌≡◌, ℕ, ◌<◌, ◌≤◌, Bool, if◌then◌else◌, Option, Some, None}
use Rattle.dtvcc_codes.specs.declared.windows.WinAttr.{WinAttr}
use Rattle.dtvcc_windows.specs.Places.{Cells}
use Rattle.dtvcc_windows.specs.Windows.{WindowState}

pub record ShownWindow : Type 0 where
  pub relative : Bool
  pub av : ℕ
  pub ah : ℕ
  pub anchor : ℕ
  pub rows : ℕ
  pub cols : ℕ
  pub row_lock : Bool
  pub col_lock : Bool
  pub priority : ℕ
  pub attributes : WinAttr
  pub cells : Cells

-- a window as it is shown
abbrev pub as_shown : WindowState → ShownWindow
as_shown w = record {
  relative = w.definition.relative;
  av = w.definition.av;
  ah = w.definition.ah;
  anchor = w.definition.anchor;
  rows = w.definition.rows;
  cols = w.definition.cols;
  row_lock = w.definition.row_lock;
  col_lock = w.definition.col_lock;
  priority = w.definition.priority;
  attributes = w.attributes;
  cells = w.cells;
}

-- what is seen where there is a window, or none
abbrev pub shown : Option WindowState → Option ShownWindow
shown None = None
shown (Some w) = if w.visible then Some (as_shown w) else None

-- all cells stand in the rows from one on, up to another, which is left out
pub record StandsIn (from to : ℕ) (w : WindowState) : Type 0 where
  pub order : from ≤ to
  pub within : to ≤ w.definition.rows
  pub above : (row col : ℕ) → row < from → w.cells row col ≡ None
  pub below : (row col : ℕ) → to ≤ row → w.cells row col ≡ None
