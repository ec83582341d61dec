-- Between crates: the program's answer stands on none of these definitions.
-- What the laws of placements say of such a lane.
use Rattle.std.specs.Prelude.{ℕ, ◌↔◌, List, [], All}
use Rattle.lanes.specs.FirstFit.{IsFirstFit}
use Rattle.lanes.specs.Placing.{IsEarliest, IsPlaced}
use Rattle.dual_fields.specs.Alone.{lane_alone}
use Rattle.dual_fields.specs.Parts.{IsBegun}
use Rattle.dual_fields.specs.ResumedLane.{resumed_lane}
use Rattle.dual_fields.specs.Slots.{AreSound, Slots}
use Rattle.dual_fields.specs.declared.part.Part.{Part}

-- both lanes have the same placements
abbrev pub LanesAreOne : Type 0
LanesAreOne = (slots : Slots) → AreSound slots → (us : List Part) → All IsBegun us → (fs : List ℕ)
    → IsPlaced (resumed_lane slots) [] us fs ↔ IsPlaced (lane_alone slots) [] us fs

-- first fit is the earliest placement
abbrev pub FirstFitIsEarliest : Type 0
FirstFitIsEarliest = (slots : Slots) → AreSound slots → (us : List Part) → All IsBegun us → (fs : List ℕ)
    → IsEarliest (resumed_lane slots) us fs ↔ IsFirstFit (resumed_lane slots) [] us fs
