-- Between crates: the program's answer stands on none of these definitions.
-- What the laws say of an edit of a window.
use Rattle.std.specs.Prelude.{◌≡◌, ◌<◌, ◌≤◌, false, Some, None}
use Rattle.dtvcc_windows.specs.Showing.{shown}
use Rattle.dtvcc_windows.specs.Windows.{WindowState}

-- it shows nothing of a window that is hidden
abbrev pub ShowsNothing : (WindowState → WindowState) → Type 0
ShowsNothing edit = (w : WindowState) → w.visible ≡ false → shown (Some (edit w)) ≡ None

-- it changes nothing that a viewer sees
abbrev pub IsUnseen : (WindowState → WindowState) → Type 0
IsUnseen edit = (w : WindowState) → shown (Some (edit w)) ≡ shown (Some w)

-- the pen stands in a row of the window, and at one of its columns or after the last
pub record IsInside (w : WindowState) : Type 0 where
  pub row : w.row < w.definition.rows
  pub col : w.col ≤ w.definition.cols

-- it leaves the pen in the window
abbrev pub KeepsInside : (WindowState → WindowState) → Type 0
KeepsInside edit = (w : WindowState) → IsInside w → IsInside (edit w)
