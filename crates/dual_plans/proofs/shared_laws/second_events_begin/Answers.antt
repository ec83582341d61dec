use Rattle.dual_plans.proofs.PlaceableLemmas.{second_begin}
use Rattle.dual_plans.proofs.shared_laws.second_events_begin.Goals as goal

pub returns : goal.returns
returns c = second_begin
