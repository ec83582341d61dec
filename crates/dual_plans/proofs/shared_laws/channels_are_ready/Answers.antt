use Rattle.dual_plans.proofs.PlaceableLemmas.{channels_ready}
use Rattle.dual_plans.proofs.shared_laws.channels_are_ready.Goals as goal

pub returns : goal.returns
returns c = channels_ready
