use Rattle.rate_convert.proofs.ConvertedLemmas.{converted_halves}
use Rattle.rate_convert.proofs.halved_laws.law_of_converted_frames.Goals as goal

pub returns : goal.returns
returns c = converted_halves
