use Rattle.rate_convert.proofs.HalvedFrameLemmas.{halved_frames}
use Rattle.rate_convert.proofs.halved_laws.law_of_halved_frames.Goals as goal

pub returns : goal.returns
returns c = halved_frames
