use Rattle.dual_fit.proofs.OneLemmas.{one_fit}
use Rattle.dual_fit.proofs.laws.fitting_beside_is_one.Goals as goal

pub returns : goal.returns
returns c = one_fit
