use Rattle.cc_conceal.proofs.CutLemmas.{since_the_jump}
use Rattle.cc_conceal.proofs.laws.frames_are_heard_since_the_jump.Goals as goal

pub returns : goal.returns
returns c = since_the_jump
