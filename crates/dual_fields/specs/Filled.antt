-- Between crates: the program's answer stands on none of these definitions.
-- A lane that is filled: its units in their earliest placement, with the first units of cues that come again.
use Rattle.std.specs.Prelude.{⊤, ℕ, List, Option, map}
use Rattle.lanes.specs.LaneRoom.{IsFirstCrowded}
use Rattle.lanes.specs.Placing.{IsEarliest}
use Rattle.lanes.specs.declared.planning.PlanFault.{PlanFault}
use Rattle.lanes.specs.declared.planning.PlanFault.TheVariants.{Memory, NoRoom}
use Rattle.dual_fields.specs.Parts.{part_cue}
use Rattle.dual_fields.specs.ResumedLane.{Stand, resumed_lane}
use Rattle.dual_fields.specs.Slots.{Slots}
use Rattle.dual_fields.specs.declared.part.Part.{Part}
use Rattle.dual_fields.specs.declared.place.Place.{Place}

-- the slots in which units begin
abbrev pub slots_at : List Place → List ℕ
slots_at places = map (λ place. place.slot) places

-- those in which first units come again
abbrev pub resumes_at : List Place → List (Option ℕ)
resumes_at places = map (λ place. place.resume) places

pub record IsFilled (slots : Slots) (parts : List Part) (places : List Place) : Type 0 where
  pub earliest : IsEarliest (resumed_lane slots) parts (slots_at places)
  pub stand : Stand slots 0 parts (slots_at places) (resumes_at places)

-- why a lane isn't filled: memory ran out, or this is the first cue without room
abbrev pub IsFault : Slots → List Part → PlanFault → Type 0
IsFault slots parts (Memory error) = ⊤
IsFault slots parts (NoRoom cue) = IsFirstCrowded (resumed_lane slots) part_cue parts cue
