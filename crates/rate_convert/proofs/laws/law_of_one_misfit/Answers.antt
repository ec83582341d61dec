use Rattle.rate_convert.proofs.OnceLemmas.{misfit_once}
use Rattle.rate_convert.proofs.laws.law_of_one_misfit.Goals as goal

pub returns : goal.returns
returns c = misfit_once
