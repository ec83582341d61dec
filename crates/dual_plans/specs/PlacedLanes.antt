-- Between crates: the program's answer stands on none of these definitions.
-- Lanes whose units stand in their places.
use Rattle.std.specs.Prelude.{◌≡◌, ℕ, true, List, None}
use Rattle.lanes.specs.LaneEvents.{IsFree}
use Rattle.dual_fields.specs.Filled.{resumes_at, slots_at}
use Rattle.dual_fields.specs.ResumedLane.{Stand}
use Rattle.dual_fields.specs.Slots.{Slots}
use Rattle.dual_fields.specs.declared.place.Place.{Place}
use Rattle.dual_fields.specs.Lanes.{AreCues}
use Rattle.dual_plans.specs.declared.list_lane.ListLane.{ListLane}

-- the units are cues' units, and stand in free slots, in which no event of the lane does
pub record CanStand (lane : ListLane) (places : List Place) : Type 0 where
  pub slots : Slots
  pub free : (n : ℕ) → slots.free n ≡ true → IsFree lane.events.items n
  pub cues : AreCues None lane.parts.items
  pub stand : Stand slots 0 lane.parts.items (slots_at places) (resumes_at places)
