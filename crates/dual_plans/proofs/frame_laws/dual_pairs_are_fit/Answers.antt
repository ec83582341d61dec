use Rattle.dual_plans.proofs.DualPairsLemmas.{dual_pairs}
use Rattle.dual_plans.proofs.frame_laws.dual_pairs_are_fit.Goals as goal

pub returns : goal.returns
returns c = dual_pairs
