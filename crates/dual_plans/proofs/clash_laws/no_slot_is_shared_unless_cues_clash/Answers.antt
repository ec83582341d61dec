use Rattle.dual_plans.proofs.ClashLemmas.{none_shared}
use Rattle.dual_plans.proofs.clash_laws.no_slot_is_shared_unless_cues_clash.Goals as goal

pub returns : goal.returns
returns c = none_shared
