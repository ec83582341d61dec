use Rattle.rate_convert.proofs.FitLemmas.{fit_none}
use Rattle.rate_convert.proofs.laws.law_of_fit_frames.Goals as goal

pub returns : goal.returns
returns c = fit_none
