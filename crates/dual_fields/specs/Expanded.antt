-- Between crates: the program's answer stands on none of these definitions.
-- The units of a lane with those that come again, as one list: a placement of the longer list in a lane of its own events.
use Rattle.std.specs.Prelude.{◌≡◌, ℕ, true, List, [], ◌∷◌, Option, Some, None}
use Rattle.line21_author.specs.declared.event.Event.{Event}
use Rattle.lanes.specs.declared.chunk.FieldChunk.{FieldChunk}
use Rattle.lanes.specs.FieldLane.{field_lane}
use Rattle.lanes.specs.LaneEvents.{IsFree, event_at}
use Rattle.lanes.specs.LaneTimeline.{lane_timeline}
use Rattle.lanes.specs.Placing.{IsPlaced}
use Rattle.dual_fields.specs.ResumedLane.{Stand}
use Rattle.dual_fields.specs.Slots.{Slots}
use Rattle.dual_fields.specs.declared.part.Part.{Part}
use Rattle.dual_fields.specs.Lanes.{AreCues, whole}

-- the first unit of a unit's cue, once more before it
abbrev pub first_again : Part → FieldChunk
first_again part = record { unit = part.first; load = part.chunk.load; until = part.chunk.until; cue = part.chunk.cue }

-- the units in the order in which they stand, where first units come again in these slots
abbrev pub expanded : List Part → List (Option ℕ) → List FieldChunk
expanded [] rs = []
expanded (part ∷ parts) [] = []
expanded (part ∷ parts) (None ∷ rs) = part.chunk ∷ expanded parts rs
expanded (part ∷ parts) (Some at ∷ rs) = first_again part ∷ part.chunk ∷ expanded parts rs

-- the slots of all of them
abbrev pub spread : List ℕ → List (Option ℕ) → List ℕ
spread [] rs = []
spread (f ∷ fs) [] = []
spread (f ∷ fs) (None ∷ rs) = f ∷ spread fs rs
spread (f ∷ fs) (Some at ∷ rs) = at ∷ f ∷ spread fs rs

-- it is placed in the lane of the own events, and gives the same
pub record IsOneLane (events : List Event) (parts : List Part) (fs : List ℕ) (rs : List (Option ℕ)) : Type 0 where
  pub placed : IsPlaced (field_lane events) [] (expanded parts rs) (spread fs rs)
  pub timeline : (n : ℕ) → lane_timeline (event_at events) (expanded parts rs) (spread fs rs) n ≡ whole (event_at events) parts fs rs n

-- so a lane with units that come again is a lane of a longer list of units
abbrev pub ResumedIsOneLane : Type 0
ResumedIsOneLane = (events : List Event) (slots : Slots) (parts : List Part) (fs : List ℕ) (rs : List (Option ℕ))
    → ((n : ℕ) → slots.free n ≡ true → IsFree events n) → AreCues None parts → Stand slots 0 parts fs rs → IsOneLane events parts fs rs
