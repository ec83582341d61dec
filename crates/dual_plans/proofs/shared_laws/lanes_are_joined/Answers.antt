use Rattle.dual_plans.proofs.SharedJoinedLemmas.{lanes_joined}
use Rattle.dual_plans.proofs.shared_laws.lanes_are_joined.Goals as goal

pub returns : goal.returns
returns c = lanes_joined
