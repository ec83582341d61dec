use Rattle.dual_fit.proofs.StandLemmas.{beside_stands}
use Rattle.dual_fit.proofs.laws.fitted_stands_beside.Goals as goal

pub returns : goal.returns
returns c = beside_stands
