-- Between crates: the program's answer stands on none of these definitions.
-- A cue's first unit that comes again changes nothing.
use Rattle.std.specs.Prelude.{◌≡◌, ℕ, ◌<◌, Bool, true, false, Option, Some, None}
use Rattle.line21_codes.specs.declared.codes.Code.{Code}
use Rattle.line21_codes.specs.declared.codes.Code.TheVariants.{Null, Text, Xds, Control}
use Rattle.line21_codes.specs.declared.codes.Control.{Control as ControlCode}
use Rattle.line21_codes.specs.declared.codes.Control.TheVariants.{Rcl, Ru, Rdc, Tr, Rtd, Eoc}
use Rattle.line21_codes.specs.Reading.{code_of}
use Rattle.line21_screen.specs.declared.modes.Mode.{Mode}
use Rattle.line21_screen.specs.declared.modes.Mode.TheVariants.{PopOn, PaintOn, RollUp}
use Rattle.lanes.specs.Timeline.{Timeline, over}
use Rattle.line21_author.specs.declared.unit.Unit.{Unit}
use Rattle.line21_shown.specs.Reading.{acts}

-- the mode that a cue's first code begins
abbrev pub opened : ControlCode → Option Mode
opened Rcl = Some PopOn
opened Rdc = Some PaintOn
opened (Ru rows) = Some (RollUp rows)
opened _ = None

-- the mode that a code begins, if it does
abbrev pub opens : Code → Option Mode
opens Null = None
opens (Text first second) = None
opens (Xds first second) = None
opens (Control second control) = opened control

-- the control codes after which the mode is as it was
abbrev pub keeps : ControlCode → Bool
keeps Rcl = false
keeps Rdc = false
keeps (Ru rows) = false
keeps Tr = false
keeps Rtd = false
keeps Eoc = false
keeps _ = true

-- the codes after which the mode is as it was
abbrev pub keeps_mode : Code → Bool
keeps_mode Null = true
keeps_mode (Text first second) = true
keeps_mode (Xds first second) = true
keeps_mode (Control second control) = keeps control

-- the unit is of a cue that is under way at the slot, where nothing begins in the timeline
pub record IsResumed (timeline : Timeline) (r : ℕ) (unit : Unit) : Type 0 where
  pub at : ℕ
  pub before : at < r
  pub begins : timeline at ≡ Some unit
  pub mode : Mode
  pub opens_it : opens (code_of unit.pair) ≡ Some mode
  pub kept : (n : ℕ) (other : Unit) → at < n → n < r → timeline n ≡ Some other → keeps_mode (code_of other.pair) ≡ true
  pub nothing : timeline r ≡ None

-- all these come again so
abbrev pub AreResumed : Timeline → Timeline → Type 0
AreResumed timeline resumes = (r : ℕ) (unit : Unit) → resumes r ≡ Some unit → IsResumed timeline r unit

-- with them the channel's state is what it is without
abbrev pub ResumesChangeNothing : Type 0
ResumesChangeNothing = (timeline resumes : Timeline) → AreResumed timeline resumes → (n : ℕ) → acts (over timeline resumes) n ≡ acts timeline n
