-- Believed in part: the library's answers stand on some of these definitions.
-- A field's lane that is placed, and what placing one answers.
use Rattle.std.specs.Prelude.{◌≡◌, ℕ, ◌+◌, List, ⊤, Option, Some, None, if◌then◌else◌}
use Rattle.std.specs.Option.{option_map}
use Rattle.line21_codes.specs.declared.pairs.Pair.{Pair}
use Rattle.cue_lists.specs.Cadences.{has_slot_in, slot_in}
use Rattle.cue_lists.specs.Cadence.{Cadence}
use Rattle.line21_author.specs.declared.event.Event.{Event}
use Rattle.lanes.specs.FieldLane.{field_lane}
use Rattle.lanes.specs.LaneRoom.{IsFirstCrowded}
use Rattle.lanes.specs.LaneTimeline.{in_slots, placed_timeline}
use Rattle.lanes.specs.Placing.{IsEarliest}
use Rattle.lanes.specs.Timeline.{slot}
use Rattle.lanes.specs.declared.chunk.FieldChunk.{FieldChunk}
use Rattle.lanes.specs.declared.placed_unit.PlacedUnit.{PlacedUnit}
use Rattle.lanes.specs.declared.planning.PlanFault.{PlanFault}
use Rattle.lanes.specs.declared.planning.PlanFault.TheVariants.{Memory, NoRoom}

-- a placed lane: its units in their slots, its events, and the slot whose pair comes next
pub record PlannedField : Type 0 where
  pub units : List PlacedUnit
  pub events : List Event
  pub slot : ℕ

-- the pair of a lane in a slot
abbrev pub slot_pair : PlannedField → ℕ → Pair
slot_pair planned n = slot (placed_timeline planned.events planned.units) n

-- the pair of a lane in a frame, where the frame has a slot
abbrev pub lane_pair : Cadence → PlannedField → ℕ → Option Pair
lane_pair cadence planned frame = option_map (slot_pair planned) (slot_in cadence frame)

-- what a lane gives in a frame: the pair of its next slot, where the frame has one
abbrev pub given_in : Cadence → ℕ → PlannedField → Option Pair
given_in cadence frame planned = if has_slot_in cadence frame then Some (slot_pair planned planned.slot) else None

-- the lane after the frame
abbrev pub behind_frame : Cadence → ℕ → PlannedField → PlannedField
behind_frame cadence frame planned =
    record planned { slot = if has_slot_in cadence frame then planned.slot + 1 else planned.slot }

-- the number of a unit's cue
abbrev pub field_chunk_cue : FieldChunk → ℕ
field_chunk_cue chunk = chunk.cue

-- the units of a lane, each in the slot of the earliest placement
abbrev pub AreInEarliest : List Event → List FieldChunk → List PlacedUnit → Type 0
AreInEarliest events chunks units = (slots : List ℕ) × IsEarliest (field_lane events) chunks slots × (units ≡ in_slots chunks slots)

-- why a lane isn't planned: memory ran out, or this is the first cue without room
abbrev pub IsFieldFault : List Event → List FieldChunk → PlanFault → Type 0
IsFieldFault events chunks (Memory error) = ⊤
IsFieldFault events chunks (NoRoom cue) = IsFirstCrowded (field_lane events) field_chunk_cue chunks cue

-- planning a lane gives it at slot 0, its units in their earliest placement
abbrev pub IsFieldPlan : List Event → List FieldChunk → PlannedField → Type 0
IsFieldPlan events chunks planned = AreInEarliest events chunks planned.units × (planned.events ≡ events) × (planned.slot ≡ 0)
