use Rattle.dual_plans.proofs.PairDecided.{judged_once}
use Rattle.dual_plans.proofs.laws.no_pair_is_judged_twice.Goals as goal

pub returns : goal.returns
returns c = judged_once
