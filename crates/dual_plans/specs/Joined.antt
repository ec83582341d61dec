-- Between crates: the program's answer stands on none of these definitions.
-- The frames of a dual plan carry the timelines of both lanes of a field.
use Rattle.std.specs.Prelude.{◌≡◌, ℕ, true, List, Option, option_map, None}
use Rattle.cue_lists.specs.Cadences.{slot_in}
use Rattle.cue_lists.specs.Cadence.{Cadence}
use Rattle.line21_author.specs.declared.event.Event.{Event}
use Rattle.lanes.specs.LaneEvents.{IsFree, event_at}
use Rattle.lanes.specs.FieldPlan.{PlannedField, lane_pair}
use Rattle.lanes.specs.LaneTimeline.{in_slots}
use Rattle.lanes.specs.Timeline.{over, slot}
use Rattle.dual_fields.specs.Lanes.{AreCues, whole}
use Rattle.dual_fields.specs.ResumedLane.{Stand}
use Rattle.dual_fields.specs.Slots.{Slots}
use Rattle.dual_fields.specs.declared.part.Part.{Part}
use Rattle.dual_fields.specs.Expanded.{expanded, spread}
use Rattle.dual_fields.specs.Together.{AreTogether}
use Rattle.dual_plans.specs.Beside.{beside}

-- a planned lane has these events and units, with those that come again
pub record IsLaneOf (events : List Event) (parts : List Part) (fs : List ℕ) (rs : List (Option ℕ)) (planned : PlannedField) : Type 0 where
  pub units_are : planned.units ≡ in_slots (expanded parts rs) (spread fs rs)
  pub events_are : planned.events ≡ events
  pub slots : Slots
  pub free : (n : ℕ) → slots.free n ≡ true → IsFree events n
  pub cues : AreCues None parts
  pub stand : Stand slots 0 parts fs rs

abbrev pub LanesAreJoined : Type 0
LanesAreJoined = (cadence : Cadence) (events more : List Event) (parts others : List Part) (fs gs : List ℕ) (rs qs : List (Option ℕ)) (one two : PlannedField)
    → IsLaneOf events parts fs rs one → IsLaneOf more others gs qs two → AreTogether (event_at events) (event_at more) parts others fs gs rs qs
    → (frame : ℕ) → beside (lane_pair cadence one frame) (lane_pair cadence two frame)
    ≡ option_map (slot (over (whole (event_at events) parts fs rs) (whole (event_at more) others gs qs))) (slot_in cadence frame)
