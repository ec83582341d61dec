-- Between crates: the program's answer stands on none of these definitions.
-- A received window beside the one of a cue.
use Rattle.std.specs.Prelude.{true, false, List, Option, Some, None, IfSome, IsTrue, All}
use Rattle.std.specs.Borrow.{Bor}
use Rattle.dtvcc_codes.specs.declared.pens.PenAttr.{PenAttr}
use Rattle.dtvcc_codes.specs.declared.windows.Definition.{Definition}
use Rattle.dtvcc_windows.specs.Objects.{is_live, window_of}
use Rattle.dtvcc_windows.specs.Showing.{ShownWindow, shown}
use Rattle.dtvcc_windows.specs.declared.window.Window.{Window}
use Rattle.cue_types.specs.Cues.{IsCueFormed}
use Rattle.cue_types.specs.Windows.{IsWindow, IsWindowRun}
use Rattle.cue_types.specs.declared.cue.Cue.{Cue}
use Rattle.cue_types.specs.declared.cue.Pen.{Pen}
use Rattle.cue_types.specs.declared.cue.Pen.TheVariants as pen
use Rattle.cue_types.specs.declared.cue.Run.{Run}
use Rattle.cue_types.specs.declared.cue.WinCue.{WinCue}

-- what is seen of a window, if there is one
abbrev pub seen_window : Option (Bor Window) → Option ShownWindow
seen_window None = None
seen_window (Some window) = shown (window_of window.now)

-- a received window is there
abbrev pub IsLive : Option (Bor Window) → Type 0
IsLive window = IfSome window (λ window. IsTrue (is_live window.now))

-- a cue is in its ranges
abbrev pub IsFormedCue : Option (Bor Cue) → Type 0
IsFormedCue cue = IfSome cue (λ cue. IsCueFormed cue.now)

-- what is seen of a definition: not the id, the visibility and the numbers of the styles
abbrev pub seen_part : Definition → Definition
seen_part d = record d { id = 0; visible = true; ws = 0; ps = 0 }

-- the same of a cue's window, whose anchor isn't relative and whose rows and columns are locked
abbrev pub cue_part : WinCue → Definition
cue_part window = record {
  id = 0;
  visible = true;
  row_lock = true;
  col_lock = true;
  priority = window.priority;
  relative = false;
  av = window.av;
  ah = window.ah;
  anchor = window.anchor;
  rows = window.rows;
  cols = window.cols;
  ws = 0;
  ps = 0;
}

-- the window and the runs of a cue are in their ranges
pub record IsFormedWindow (window : WinCue) (runs : List Run) : Type 0 where
  pub is : IsWindow window
  pub runs_are : All (IsWindowRun window) runs

-- the attributes of a pen style with a run's own italics and underline
abbrev pub as_written : PenAttr → Pen → PenAttr
as_written style (pen.Line21 line21) = style
as_written style (pen.Dtv italic underline) = record style { italic = italic; underline = underline }
