-- Between crates: the program's answer stands on none of these definitions.
-- Slots that agree up to a number: for units that must end there they are one.
use Rattle.std.specs.Prelude.{◌≡◌, ◌↔◌, ℕ, ◌<◌, ◌≤◌, List, Option, All}
use Rattle.lanes.specs.LaneRoom.{IsFirstCrowded}
use Rattle.lanes.specs.Placing.{IsEarliest}
use Rattle.dual_fields.specs.Parts.{part_cue}
use Rattle.dual_fields.specs.ResumedLane.{Stand, resumed_lane}
use Rattle.dual_fields.specs.Slots.{Slots}
use Rattle.dual_fields.specs.declared.part.Part.{Part}

-- below the number both have the same free and foreign slots
pub record Agree (count : ℕ) (slots others : Slots) : Type 0 where
  pub free : (n : ℕ) → n < count → others.free n ≡ slots.free n
  pub foreign : (n : ℕ) → n < count → others.foreign n ≡ slots.foreign n

-- the unit must have ended by then
abbrev pub EndsBy : ℕ → Part → Type 0
EndsBy count part = part.chunk.until ≤ count

-- these units have the same earliest placement, come again in the same slots, and have the same first cue without room
pub record AreAsOne (slots others : Slots) (us : List Part) : Type 0 where
  pub earliest : (fs : List ℕ) → IsEarliest (resumed_lane slots) us fs ↔ IsEarliest (resumed_lane others) us fs
  pub stand : (end : ℕ) (fs : List ℕ) (rs : List (Option ℕ)) → Stand slots end us fs rs ↔ Stand others end us fs rs
  pub crowded : (cue : ℕ) → IsFirstCrowded (resumed_lane slots) part_cue us cue ↔ IsFirstCrowded (resumed_lane others) part_cue us cue

abbrev pub AgreeingAreOne : Type 0
AgreeingAreOne = (count : ℕ) (slots others : Slots) → Agree count slots others → (us : List Part) → All (EndsBy count) us → AreAsOne slots others us
