use Rattle.rate_convert.proofs.HalvedServiceLemmas.{halves_alike}
use Rattle.rate_convert.proofs.halved_laws.law_of_delayed_services.Goals as goal

pub returns : goal.returns
returns c = halves_alike
