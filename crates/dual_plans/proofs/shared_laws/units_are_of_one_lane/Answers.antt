use Rattle.dual_plans.proofs.PlacedUnitsLemmas.{units_of_one_lane}
use Rattle.dual_plans.proofs.shared_laws.units_are_of_one_lane.Goals as goal

pub returns : goal.returns
returns c = units_of_one_lane
