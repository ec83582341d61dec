use Rattle.lost.proofs.LastLemmas.{greatest_last, last_lost_found}
use Rattle.lost.proofs.laws.last_lost_is_found.Goals as goal

pub returns-clause-found : goal.returns-clause-found
returns-clause-found c = last_lost_found

pub returns-clause-greatest : goal.returns-clause-greatest
returns-clause-greatest c = greatest_last
