-- Believed: the program's answer stands on these definitions.
-- Cues in windows of a DTVCC service: the ranges of the window and of its runs (CTA-708-E, 8.4).
use Rattle.std.specs.Prelude.{◌+◌, ◌<◌, ◌≤◌, length, All, IfSome, IsSome}
use Rattle.dtvcc_codes.specs.CharacterSpellings.{dtvcc_spelling}
use Rattle.dtvcc_codes.specs.Spellable.{IsPenColors, IsWinAttr}
use Rattle.dtvcc_codes.specs.declared.windows.WinAttr.{WinAttr}
use Rattle.cue_types.specs.declared.cue.Pen.{Pen}
use Rattle.cue_types.specs.declared.cue.Pen.TheVariants as pen
use Rattle.cue_types.specs.declared.cue.Run.{Run}
use Rattle.cue_types.specs.declared.cue.WinCue.{WinCue}

-- attributes that have a meaning: an effect and a border that the standard names
pub record AreWindowAttributes (attributes : WinAttr) : Type 0 where
  pub spellable : IsWinAttr attributes
  pub effect : attributes.effect ≤ 2
  pub border_kind : attributes.border_kind ≤ 5

-- a DTVCC window in its ranges
pub record IsWindow (w : WinCue) : Type 0 where
  pub service : (1 ≤ w.service) × (w.service ≤ 6)
  pub id : w.id ≤ 7
  pub delay : w.delay ≤ 255
  pub anchor : w.anchor ≤ 8
  pub av : w.av ≤ 74
  pub ah : w.ah ≤ 209
  pub rows : (1 ≤ w.rows) × (w.rows ≤ 12)
  pub cols : (1 ≤ w.cols) × (w.cols ≤ 42)
  pub priority : w.priority ≤ 7
  pub ws : (1 ≤ w.ws) × (w.ws ≤ 7)
  pub ps : (1 ≤ w.ps) × (w.ps ≤ 7)
  pub attr : IfSome w.attr AreWindowAttributes

-- the pen of a window's run
abbrev pub IsWindowPen : Pen → Type 0
IsWindowPen (pen.Line21 _) = ⊥
IsWindowPen (pen.Dtv _ _) = Unit {0}

-- a run in the rows and columns of its window, each of whose characters has a code
pub record IsWindowRun (w : WinCue) (run : Run) : Type 0 where
  pub row : run.row < w.rows
  pub col : run.col < w.cols
  pub pen : IsWindowPen run.pen
  pub some : 1 ≤ length run.text
  pub fits : run.col + length run.text ≤ w.cols
  pub coded : All (λ ch. IsSome (dtvcc_spelling ch)) run.text
  pub colors : IfSome run.colors IsPenColors
