use Rattle.rate_convert.proofs.UndelayedServiceLemmas.{halves_one}
use Rattle.rate_convert.proofs.halved_laws.law_of_undelayed_services.Goals as goal

pub returns : goal.returns
returns c = halves_one
