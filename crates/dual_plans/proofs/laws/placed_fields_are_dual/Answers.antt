use Rattle.dual_plans.proofs.DualLemmas.{placed_dual}
use Rattle.dual_plans.proofs.laws.placed_fields_are_dual.Goals as goal

pub returns : goal.returns
returns c = placed_dual
