use Rattle.rate_convert.proofs.LawLemmas.{fit_keeps}
use Rattle.rate_convert.proofs.laws.conversion_keeps_grids.Goals as goal

pub returns : goal.returns
returns c = fit_keeps
