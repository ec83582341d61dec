-- Between crates: the program's answer stands on none of these definitions.
-- What the steps of fitting a list answer.
use Rattle.std.specs.Prelude.{◌≡◌, ℕ, ◌+◌, ◌<◌, List, All, length, reverse, Bool, true, false, Option, Some, None, Result, Ok, Err, drop, if◌then◌else◌, option_to_list, slice_index_or, ⊤}
use Rattle.std.specs.List.{AllByRecursion}
use Rattle.cue_lists.specs.Cues.{IsCueFormed}
use Rattle.cue_lists.specs.Listing.{IsFormed, Listing, most_cues}
use Rattle.cue_lists.specs.Lane.{is_line21, on_lane}
use Rattle.cue_lists.specs.Rules.Former.{former_cue}
use Rattle.cue_lists.specs.declared.cue.Cue.{Cue}
use Rattle.cue_lists.specs.declared.lane.Lane.{Lane}
use Rattle.lanes.specs.declared.planning.PlanFault.{PlanFault}
use Rattle.lanes.specs.declared.planning.PlanFault.TheVariants.{Memory, NoRoom}
use Rattle.frame_scheduler.specs.ServicePlans.{IsMemory}
use Rattle.cue_fit.specs.Fitted.{HasNoShow, HasPlan, IsFitted, IsShow, LacksShow, list_of}

-- none of the cues is on the lane
abbrev pub AreOff : Lane → List Cue → Type 0
AreOff on cues = AllByRecursion (λ (cue : Cue). on_lane on cue ≡ false) cues

-- the cue at this index is the last one on the lane
pub record IsLastOn (on : Lane) (cues : List Cue) (index : ℕ) : Type 0 where
  pub within : index < length cues
  pub here : (d : Cue) → on_lane on (slice_index_or cues index d) ≡ true
  pub after : AreOff on (drop (index + 1) cues)

-- the cues after which one is tried, the newest first: on a channel the former one alone
abbrev pub near : Cue → List Cue → List Cue
near cue earlier = if is_line21 cue.kind then option_to_list (former_cue cue earlier) else earlier

-- a cue comes next after cues in file order that have a plan
pub record ComesNext (list : Listing) (earlier : List Cue) (cue : Cue) : Type 0 where
  pub list_formed : IsFormed list
  pub cues_formed : All IsCueFormed earlier
  pub few : length earlier < most_cues
  pub cue_formed : IsCueFormed cue
  pub planned : HasPlan (list_of list (reverse earlier))

-- whether a list has a plan
abbrev pub TellsPlan : Listing → Result Bool PlanFault → Type 0
TellsPlan list (Ok true) = HasPlan list
TellsPlan list (Ok false) = HasPlan list → ⊥
TellsPlan list (Err fault) = IsMemory fault

-- the first frame in which the cue may be shown after those so far, if there is one that isn't too late
abbrev pub FindsShow : ℕ → Listing → List Cue → Cue → Result (Option ℕ) PlanFault → Type 0
FindsShow late list earlier cue (Ok (Some frame)) = IsShow late list earlier cue frame
FindsShow late list earlier cue (Ok None) = HasNoShow late list earlier cue
FindsShow late list earlier cue (Err fault) = IsMemory fault

-- what fitting a list answers
abbrev pub FitsList : ℕ → Listing → Result Listing PlanFault → Type 0
FitsList late list (Ok fitted) = IsFitted late list fitted
FitsList late list (Err (Memory error)) = ⊤
FitsList late list (Err (NoRoom number)) = LacksShow late list number
