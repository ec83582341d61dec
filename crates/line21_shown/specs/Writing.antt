-- Between crates: the program's answer stands on none of these definitions.
-- What the codes of runs write: exactly the cells of the runs, into the memory that the mode writes (CTA-608-E; 47 CFR
-- 79.101, pop-on, paint-on and roll-up captions).
use Rattle.std.specs.Prelude.{◌≡◌, ⊤, ℕ, ◌≤◌, false, if◌then◌else◌, List, [], ◌∷◌, All}
use Rattle.std.specs.List.{flat_map}
use Rattle.cue_lists.specs.declared.cue.Pen.{Pen}
use Rattle.cue_lists.specs.declared.cue.Pen.TheVariants.{Line21, Dtv}
use Rattle.cue_lists.specs.declared.cue.Run.{Run}
use Rattle.cue_lists.specs.AuthoredGrid.{cell_in}
use Rattle.cue_lists.specs.Line21Cues.{IsLine21Run}
use Rattle.cue_lists.specs.Rules.Cells.{covers, end_column}
use Rattle.frame_scheduler.specs.RunCodes.{run_codes}
use Rattle.line21_screen.specs.declared.modes.Mode.{Mode}
use Rattle.line21_screen.specs.declared.modes.Mode.TheVariants.{Off, PopOn, PaintOn, RollUp}
use Rattle.line21_screen.specs.Channels.{ChannelState}
use Rattle.line21_screen.specs.Editing.{edited, with_pen}
use Rattle.line21_screen.specs.Grid.{Grid}
use Rattle.line21_screen.specs.Pens.{PenState}
use Rattle.line21_screen.specs.Windows.{IsWithin}
use Rattle.line21_shown.specs.Doing.{does_all}

-- a memory with the cells of a run, whatever stood in them
abbrev pub with_run : Run → Grid → Grid
with_run run g row column = if covers run row column then cell_in run.pen run column else g row column

-- a memory with the cells of runs, one after another
abbrev pub with_runs : List Run → Grid → Grid
with_runs [] g = g
with_runs (run ∷ runs) g = with_runs runs (with_run run g)

-- the pen after a run: after its last character, with its style
abbrev pub pen_behind : Pen → Run → PenState → PenState
pen_behind (Line21 style) run pen = record { row = run.row; col = end_column run; style = style }
pen_behind (Dtv italic underline) run pen = pen

-- the pen after runs
abbrev pub pen_behind_all : List Run → PenState → PenState
pen_behind_all [] pen = pen
pen_behind_all (run ∷ runs) pen = pen_behind_all runs (pen_behind run.pen run pen)

-- a mode takes a run in a row: roll-up captions take it in the base row, of a window that has room for its rows and
-- outside of which no cell stands
abbrev pub TakesRow : Mode → ℕ → ChannelState → Type 0
TakesRow Off row s = ⊥
TakesRow PopOn row s = ⊤
TakesRow PaintOn row s = ⊤
TakesRow (RollUp rows) row s = (s.base ≡ row) × (1 ≤ rows) × (rows ≤ row) × IsWithin s.displayed rows row

-- the captions of a channel take a run in a row
pub record IsOpen (row : ℕ) (s : ChannelState) : Type 0 where
  pub captions : s.text ≡ false
  pub mode : TakesRow s.mode row s

-- the codes of runs write exactly the cells of the runs into the memory that the mode writes, whatever stood there, and
-- leave the pen after the last of them: with any pens, characters and columns, in each of the modes
abbrev pub RunsAreWritten : Type 0
RunsAreWritten = (runs : List Run) (s : ChannelState) → All IsLine21Run runs → All (λ run. IsOpen run.row s) runs
    → does_all (flat_map run_codes runs) s ≡ with_pen (pen_behind_all runs s.pen) (edited (with_runs runs) s)
