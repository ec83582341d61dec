use Rattle.dual_plans.proofs.DualBlocksLemmas.{dual_blocks}
use Rattle.dual_plans.proofs.frame_laws.dual_blocks_are_fit.Goals as goal

pub returns : goal.returns
returns c = dual_blocks
