-- A lane whose units stand in their places can be read from slot 0 on.
use Rattle.std.proofs.Common.{◌≡◌, List, None, ◌∙◌}
use Rattle.line21_author.specs.EventOrder.{AreApart}
use Rattle.lanes.specs.LaneCursor.{IsReadyForPairs}
use Rattle.lanes.specs.LaneTimeline.{in_slots, placed_timeline}
use Rattle.lanes.specs.declared.placed_unit.PlacedUnit.{PlacedUnit}
use Rattle.lanes.specs.FieldPlan.{PlannedField}
use Rattle.lanes.proofs.LanePlanLemmas.{ready_placed}
use Rattle.dual_fields.specs.Filled.{resumes_at, slots_at}
use Rattle.dual_fields.specs.declared.place.Place.{Place}
use Rattle.dual_plans.specs.Joined.{IsLaneOf}
use Rattle.dual_plans.specs.PlacedUnits.{units_in}
use Rattle.dual_plans.proofs.PlacedUnitsLemmas.{units_of_one_lane}
use Rattle.dual_fields.specs.Expanded.{expanded, spread}
use Rattle.dual_fields.proofs.ExpandedLemmas.{one_lane}
use Rattle.dual_plans.specs.PlacedLanes.{CanStand}
use Rattle.dual_plans.specs.declared.list_lane.ListLane.{ListLane}

module _ (lane : ListLane) (places : List Place) (units : List PlacedUnit) (is : units ≡ units_in lane.parts.items places) (stand : CanStand lane places) where
  units_are : units ≡ in_slots (expanded lane.parts.items (resumes_at places)) (spread (slots_at places) (resumes_at places))
  units_are = is ∙ units_of_one_lane lane.parts.items places

  pub ready : AreApart lane.events.items
      → IsReadyForPairs (placed_timeline lane.events.items units) lane.events.items units (record { slot = 0; next_unit = 0; next_event = 0; repeat = None })
  ready apart =
      ready_placed lane.events.items (expanded lane.parts.items (resumes_at places)) (spread (slots_at places) (resumes_at places)) units apart
      (one_lane lane.events.items stand.slots lane.parts.items (slots_at places) (resumes_at places) stand.free stand.cues stand.stand).placed units_are

  pub lane_made : (planned : PlannedField) → planned.units ≡ units → planned.events ≡ lane.events.items
      → IsLaneOf lane.events.items lane.parts.items (slots_at places) (resumes_at places) planned
  lane_made planned units_is events_is = record {
    units_are = units_is ∙ units_are;
    events_are = events_is;
    slots = stand.slots;
    free = stand.free;
    cues = stand.cues;
    stand = stand.stand;
  }
