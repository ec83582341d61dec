-- Between crates: the program's answer stands on none of these definitions.
-- The units of a lane in their places, with the first units of cues where they come again.
use Rattle.std.specs.Prelude.{◌≡◌, ℕ, List, [], ◌∷◌, ◌++◌, Option, Some, None}
use Rattle.lanes.specs.LaneTimeline.{in_slots}
use Rattle.lanes.specs.declared.placed_unit.PlacedUnit.{PlacedUnit}
use Rattle.dual_fields.specs.Filled.{resumes_at, slots_at}
use Rattle.dual_fields.specs.declared.part.Part.{Part}
use Rattle.dual_fields.specs.declared.place.Place.{Place}
use Rattle.dual_fields.specs.Expanded.{expanded, spread}

-- a unit at its slot, and before it the first one of its cue where that comes again
abbrev pub unit_in : Part → ℕ → Option ℕ → List PlacedUnit
unit_in part slot None = record { unit = part.chunk.unit; slot = slot } ∷ []
unit_in part slot (Some at) = record { unit = part.first; slot = at } ∷ record { unit = part.chunk.unit; slot = slot } ∷ []

-- all of them, in order
abbrev pub units_in : List Part → List Place → List PlacedUnit
units_in [] places = []
units_in (part ∷ parts) [] = []
units_in (part ∷ parts) (place ∷ places) = unit_in part place.slot place.resume ++ units_in parts places

-- they are the units of the one lane that both make
abbrev pub UnitsAreOfOneLane : Type 0
UnitsAreOfOneLane = (parts : List Part) (places : List Place)
    → units_in parts places ≡ in_slots (expanded parts (resumes_at places)) (spread (slots_at places) (resumes_at places))
