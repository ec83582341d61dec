use Rattle.dual_plans.proofs.DualShownLemmas.{both_shown}
use Rattle.dual_plans.proofs.frame_laws.both_lists_are_shown.Goals as goal

pub returns : goal.returns
returns c = both_shown
