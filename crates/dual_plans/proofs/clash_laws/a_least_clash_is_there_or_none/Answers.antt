use Rattle.dual_plans.proofs.MeetingLemmas.{least_always}
use Rattle.dual_plans.proofs.clash_laws.a_least_clash_is_there_or_none.Goals as goal

pub returns : goal.returns
returns c = least_always
