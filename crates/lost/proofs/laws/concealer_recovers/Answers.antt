use Rattle.lost.proofs.ConcealerLemmas.{concealer_recovered}
use Rattle.lost.proofs.laws.concealer_recovers.Goals as goal

pub returns : goal.returns
returns c = concealer_recovered
