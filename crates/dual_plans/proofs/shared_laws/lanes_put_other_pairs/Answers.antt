use Rattle.dual_plans.proofs.OthersLemmas.{other_pairs_put}
use Rattle.dual_plans.proofs.shared_laws.lanes_put_other_pairs.Goals as goal

pub returns : goal.returns
returns c = other_pairs_put
