use Rattle.dual_plans.proofs.DualPairsLemmas.{dual_sound}
use Rattle.dual_plans.proofs.frame_laws.dual_frames_are_sound.Goals as goal

pub returns : goal.returns
returns c = dual_sound
