use Rattle.dual_plans.proofs.PairDecided.{each_judged}
use Rattle.dual_plans.proofs.laws.each_pair_is_judged.Goals as goal

pub returns : goal.returns
returns c = each_judged
