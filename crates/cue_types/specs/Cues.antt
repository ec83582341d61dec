-- Believed: the program's answer stands on these definitions.
-- Cues: what holds of each cue of a list, by its kind.
use Rattle.std.specs.Prelude.{ℕ, ◌<◌, ◌≤◌, ◌^◌, List, length, All, Option, Some, None, IsSome}
use Rattle.cue_types.specs.Line21Cues.{IsAuthoredChannel, IsLine21Run, IsRolled}
use Rattle.cue_types.specs.Windows.{IsWindow, IsWindowRun}
use Rattle.cue_types.specs.declared.cue.Cue.{Cue}
use Rattle.cue_types.specs.declared.cue.Kind.{Kind}
use Rattle.cue_types.specs.declared.cue.Kind.TheVariants as kind
use Rattle.cue_types.specs.declared.cue.Run.{Run}

-- a cue's kind, with whether it is hidden and its runs
abbrev pub IsOfKind : Kind → Option ℕ → List Run → Type 0
IsOfKind (kind.Pop channel) hide runs = IsAuthoredChannel channel × IsSome hide × All IsLine21Run runs
IsOfKind (kind.Paint channel) hide runs = IsAuthoredChannel channel × IsSome hide × All IsLine21Run runs
IsOfKind (kind.Roll channel rows) hide runs = IsAuthoredChannel channel × IsRolled rows runs × All IsLine21Run runs
IsOfKind (kind.Win w) hide runs = IsWindow w × IsSome hide × All (IsWindowRun w) runs

-- a frame number that is there, or none
abbrev pub IsFrameOrNone : Option ℕ → Type 0
IsFrameOrNone None = Unit {0}
IsFrameOrNone (Some frame) = frame < 2 ^ 32

-- a cue in its ranges, with one run at least
pub record IsCueFormed (cue : Cue) : Type 0 where
  pub load : cue.load < 2 ^ 32
  pub show : cue.show < 2 ^ 32
  pub hide : IsFrameOrNone cue.hide
  pub some : 1 ≤ length cue.runs
  pub kind : IsOfKind cue.kind cue.hide cue.runs
