-- Between crates: the program's answer stands on none of these definitions.
-- What the steps of fitting a second list answer.
use Rattle.std.specs.Prelude.{◌≡◌, ⊤, ℕ, ◌≤◌, ◌<◌, All, Bool, true, false, List, length, Option, Some, None, Result, Ok, Err}
use Rattle.cue_lists.specs.Cues.{IsCueFormed}
use Rattle.cue_lists.specs.Listing.{IsFormed, Listing, most_cues, most_frames}
use Rattle.cue_lists.specs.Rules.{IsRuled}
use Rattle.cue_lists.specs.declared.cue.Cue.{Cue}
use Rattle.dual_plans.specs.OtherList.{IsJudged}
use Rattle.dual_fit.specs.FittedBeside.{AreTimes, HasNoTimes, IsFittedBeside, LacksAlone, LacksTimes, MayStand, StandTogether}
use Rattle.dual_fit.specs.declared.fault.FitFault.{FitFault}
use Rattle.dual_fit.specs.declared.fault.FitFault.TheVariants.{Memory, OtherList, NoRoom, NoRoomBeside}
use Rattle.dual_fit.specs.declared.times.Times.{Times}

-- a cue comes next after fitted cues in file order, beside a first list that keeps the rules
pub record ComesBeside (one two : Listing) (earlier : List Cue) (cue : Cue) : Type 0 where
  pub one_ruled : IsRuled one
  pub list_formed : IsFormed two
  pub cues_formed : All IsCueFormed earlier
  pub few : length earlier < most_cues
  pub cue_formed : IsCueFormed cue
  pub shown : cue.show ≤ most_frames
  pub hidden : (hide : ℕ) → cue.hide ≡ Some hide → hide ≤ most_frames

-- whether lists stand together
abbrev pub TellsTogether : Listing → Listing → Bool → Type 0
TellsTogether one two true = StandTogether one two
TellsTogether one two false = StandTogether one two → ⊥

-- the times with the least HIDE that does with a SHOW, if one does
abbrev pub FindsHide : ℕ → Listing → Listing → Bool → List Cue → Cue → ℕ → Option Times → Type 0
FindsHide late one two takes earlier cue show (Some times) =
    (times.show ≡ show) × MayStand late one two takes earlier cue times
    × ((hide other : ℕ) → times.hide ≡ Some hide → other < hide → MayStand late one two takes earlier cue (record times { hide = Some other }) → ⊥)
FindsHide late one two takes earlier cue show None = (hide : Option ℕ) → MayStand late one two takes earlier cue (record { show = show; hide = hide }) → ⊥

-- the times of a cue, if there are any
abbrev pub FindsTimes : ℕ → Listing → Listing → Bool → List Cue → Cue → Option Times → Type 0
FindsTimes late one two takes earlier cue (Some times) = AreTimes late one two takes earlier cue times
FindsTimes late one two takes earlier cue None = HasNoTimes late one two takes earlier cue

-- memory ran out
abbrev pub IsMemory : FitFault → Type 0
IsMemory (Memory error) = ⊤
IsMemory (OtherList rec field) = ⊥
IsMemory (NoRoomBeside number) = ⊥
IsMemory (NoRoom number) = ⊥

-- what fitting a second list beside a first one answers
abbrev pub FitsBeside : ℕ → Listing → Listing → Result Listing FitFault → Type 0
FitsBeside late one two (Ok fitted) = IsFittedBeside late one two fitted
FitsBeside late one two (Err (Memory error)) = ⊤
FitsBeside late one two (Err (OtherList rec field)) = IsJudged one two (Some (record { rec = rec; field = field }))
FitsBeside late one two (Err (NoRoomBeside number)) = LacksAlone one two number
FitsBeside late one two (Err (NoRoom number)) = LacksTimes late one two number
