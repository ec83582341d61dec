-- Believed in part: the program's answer stands on some of these definitions.
-- What a DTVCC service is to show at a frame, by the SHOW and HIDE of its cues, their windows, and the rows, columns and
-- pens of their runs alone (CTA-708-E, caption windows and predefined styles). No byte and no receiver stands in it: it
-- shares the tables of styles with them, and the shape of what is seen.
use Rattle.std.specs.Prelude.{◌≡◌, ⊤, ℕ, ◌+◌, ◌-◌, ◌==◌, ◌&&◌, nat_le, nat_lt, Bool, false, true, if◌then◌else◌, List, [], ◌∷◌, length, find, slice_index_or, Option, Some, None, unwrap_or}
use Rattle.std.specs.List.{AllByRecursion}
use Rattle.std.specs.Option.{option_and_then}
use Rattle.dtvcc_windows.specs.PenAttr.{PenAttr}
use Rattle.dtvcc_windows.specs.Places.{Cells}
use Rattle.dtvcc_windows.specs.Showing.{ShownWindow}
use Rattle.dtvcc_windows.specs.Styles.{pen_style, window_style}
use Rattle.dtvcc_windows.specs.declared.cells.DCell.{DCell}
use Rattle.cue_types.specs.Channels.{uses_window}
use Rattle.cue_types.specs.declared.cue.Cue.{Cue}
use Rattle.cue_types.specs.declared.cue.Kind.{Kind}
use Rattle.cue_types.specs.declared.cue.Kind.TheVariants as kind
use Rattle.cue_types.specs.declared.cue.Pen.{Pen}
use Rattle.cue_types.specs.declared.cue.Pen.TheVariants as pen
use Rattle.cue_types.specs.declared.cue.Run.{Run}
use Rattle.cue_types.specs.declared.cue.WinCue.{WinCue}

-- a place is in the row of a run, from its COL up to the end of its text
abbrev pub has_place : Run → ℕ → ℕ → Bool
has_place run row column = (row == run.row) && (nat_le run.col column && nat_lt column (run.col + length run.text))

-- how a run is written: as the pen style of its window, with its own italics and underline
abbrev pub written_as : ℕ → Pen → PenAttr
written_as style (pen.Line21 line21) = (pen_style style).0
written_as style (pen.Dtv italic underline) = record (pen_style style).0 { italic = italic; underline = underline }

-- the cell of a run at a column: character j of its text stands at COL + j, in the run's colours, or else in the pen
-- style's
abbrev pub cell_at : ℕ → Run → ℕ → DCell
cell_at style run column = record {
  ch = slice_index_or run.text (column - run.col) 0x20;
  pen = written_as style run.pen;
  colors = unwrap_or run.colors (pen_style style).1;
}

-- the cells of runs: at a place, the cell of the run that has it
abbrev pub written_cells : ℕ → List Run → Cells
written_cells style [] row column = None
written_cells style (run ∷ runs) row column = if has_place run row column then Some (cell_at style run column) else written_cells style runs row column

-- the window of a cue as it is seen: its anchor isn't relative, its rows and columns are locked, and it has its own attributes,
-- or else its window style's
abbrev pub authored_window : WinCue → List Run → ShownWindow
authored_window window runs = record {
  relative = false;
  av = window.av;
  ah = window.ah;
  anchor = window.anchor;
  rows = window.rows;
  cols = window.cols;
  row_lock = true;
  col_lock = true;
  priority = window.priority;
  attributes = unwrap_or window.attr (window_style window.ws);
  cells = written_cells window.ps runs;
}

-- the frame is before the HIDE
abbrev pub is_before : ℕ → Option ℕ → Bool
is_before frame None = true
is_before frame (Some hide) = nat_lt frame hide

-- the cue is shown in the window at the frame: SHOW has come, and HIDE hasn't
abbrev pub shows_in : ℕ → ℕ → ℕ → Cue → Bool
shows_in service id frame cue = uses_window service id cue.kind && (nat_le cue.show frame && is_before frame cue.hide)

-- the window of a cue, which a line 21 cue hasn't
abbrev pub cue_window : Kind → List Run → Option ShownWindow
cue_window (kind.Pop channel) runs = None
cue_window (kind.Paint channel) runs = None
cue_window (kind.Roll channel rows) runs = None
cue_window (kind.Win window) runs = Some (authored_window window runs)

-- what a service is to show at a frame: in each window the one cue that is shown there, if there is one
abbrev pub authored_windows : ℕ → List Cue → ℕ → ℕ → Option ShownWindow
authored_windows service cues frame id = option_and_then (λ cue. cue_window cue.kind cue.runs) (find (shows_in service id frame) cues)

-- the cues are shown one at a time in the window: where one of them is, none of the later ones is
abbrev pub AreOneAtATime : ℕ → ℕ → ℕ → List Cue → Type 0
AreOneAtATime service id frame [] = ⊤
AreOneAtATime service id frame (cue ∷ later) =
    (shows_in service id frame cue ≡ true → AllByRecursion (λ (other : Cue). shows_in service id frame other ≡ false) later)
    × AreOneAtATime service id frame later

-- a window is the window of each cue that is shown in it, and none where no cue is
pub record IsWindowAt (service id frame : ℕ) (cues : List Cue) (window : Option ShownWindow) : Type 0 where
  pub has : AllByRecursion (λ (cue : Cue). shows_in service id frame cue ≡ true → window ≡ cue_window cue.kind cue.runs) cues
  pub none : AllByRecursion (λ (cue : Cue). shows_in service id frame cue ≡ false) cues → window ≡ None

-- what a service is to show at a frame has the window of each cue that is shown, and no other
abbrev pub ShowsEachCue : Type 0
ShowsEachCue = (service id frame : ℕ) (cues : List Cue) → AreOneAtATime service id frame cues
    → IsWindowAt service id frame cues (authored_windows service cues frame id)
