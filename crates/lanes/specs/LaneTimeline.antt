-- Believed in part: the program's answer stands on some of these definitions.
-- The timeline of a field's lane: its events, and its units in their slots.
use Rattle.std.specs.Prelude.{ℕ, ◌==◌, List, [], ◌∷◌, Some, None, if◌then◌else◌}
use Rattle.line21_author.specs.declared.event.Event.{Event}
use Rattle.lanes.specs.declared.chunk.FieldChunk.{FieldChunk}
use Rattle.lanes.specs.declared.placed_unit.PlacedUnit.{PlacedUnit}
use Rattle.lanes.specs.Timeline.{Timeline, over}
use Rattle.lanes.specs.LaneEvents.{event_at}

-- the timeline on which each unit begins at its slot
abbrev pub stands : List FieldChunk → List ℕ → Timeline
stands [] fs n = None
stands (chunk ∷ chunks) [] n = None
stands (chunk ∷ chunks) (f ∷ fs) n = if n == f then Some chunk.unit else stands chunks fs n

-- a lane's timeline: these events, and the units, where they stand in the slots fs
abbrev pub lane_timeline : Timeline → List FieldChunk → List ℕ → Timeline
lane_timeline events chunks fs = over events (stands chunks fs)

-- the units, each with the slot in which it stands
abbrev pub in_slots : List FieldChunk → List ℕ → List PlacedUnit
in_slots [] fs = []
in_slots (chunk ∷ chunks) [] = []
in_slots (chunk ∷ chunks) (f ∷ fs) = record { unit = chunk.unit; slot = f } ∷ in_slots chunks fs

-- the timeline on which each of these begins
abbrev pub unit_at : List PlacedUnit → Timeline
unit_at [] n = None
unit_at (placed ∷ units) n = if n == placed.slot then Some placed.unit else unit_at units n

-- the timeline of a lane that is placed
abbrev pub placed_timeline : List Event → List PlacedUnit → Timeline
placed_timeline events units = over (event_at events) (unit_at units)
