use Rattle.std.proofs.Common.{◌≡◌, ◌++◌, ◌-◌, drop, length}
use Rattle.dual_plans.specs.PlacedUnits.{units_in}
use Rattle.dual_plans.proofs.placed_units.units_in.Given as goal

-- the units so far, and those to come
abbrev pub invariant-loop-index : goal.invariant-loop-index
invariant-loop-index l = l.units.items ++ units_in (drop l.index l.parts) (drop l.index l.places) ≡ units_in l.parts l.places

abbrev pub decreases-loop-index : goal.decreases-loop-index
decreases-loop-index l = length l.parts - l.index
