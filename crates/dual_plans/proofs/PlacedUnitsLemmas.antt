-- The units of a lane in their places.
use Rattle.std.proofs.Common.{◌≡◌, ℕ, List, [], ◌∷◌, ◌++◌, Option, Some, None, append-nil, refl, sym, ap, ◌∙◌}
use Rattle.lanes.specs.LaneTimeline.{in_slots}
use Rattle.lanes.specs.declared.placed_unit.PlacedUnit.{PlacedUnit}
use Rattle.dual_fields.specs.Filled.{resumes_at, slots_at}
use Rattle.dual_fields.specs.declared.part.Part.{Part}
use Rattle.dual_fields.specs.Expanded.{expanded, spread}
use Rattle.dual_plans.specs.PlacedUnits.{UnitsAreOfOneLane, unit_in, units_in}

-- where no places are left, no unit is
pub none_placed : (parts : List Part) → units_in parts [] ≡ []
none_placed [] = refl
none_placed (part ∷ parts) = refl

-- all are placed where none is left
pub nothing_left : (units left all : List PlacedUnit) → left ≡ [] → units ++ left ≡ all → units ≡ all
nothing_left units left all none is = sym (append-nil units) ∙ ap (λ (l : List PlacedUnit). units ++ l) (sym none) ∙ is

pub units_of_one_lane : UnitsAreOfOneLane
units_of_one_lane [] [] = refl
units_of_one_lane [] (place ∷ places) = refl
units_of_one_lane (part ∷ parts) [] = refl
units_of_one_lane (part ∷ parts) (place ∷ places) = by_resume place.resume (units_of_one_lane parts places)
  where
    by_resume : (r : Option ℕ) → units_in parts places ≡ in_slots (expanded parts (resumes_at places)) (spread (slots_at places) (resumes_at places))
        → unit_in part place.slot r ++ units_in parts places
        ≡ in_slots (expanded (part ∷ parts) (r ∷ resumes_at places)) (spread (place.slot ∷ slots_at places) (r ∷ resumes_at places))
    by_resume None rest = ap (λ (l : List PlacedUnit). record { unit = part.chunk.unit; slot = place.slot } ∷ l) rest
    by_resume (Some at) rest =
        ap (λ (l : List PlacedUnit). record { unit = part.first; slot = at } ∷ record { unit = part.chunk.unit; slot = place.slot } ∷ l) rest
