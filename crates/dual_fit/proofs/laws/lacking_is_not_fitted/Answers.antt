use Rattle.dual_fit.proofs.OneLemmas.{lacks_none}
use Rattle.dual_fit.proofs.laws.lacking_is_not_fitted.Goals as goal

pub returns : goal.returns
returns c = λ late one two fitted number lacks is. lacks_none late one two number fitted lacks is
