use Rattle.lanes.proofs.ServiceLaneLemmas.{chunks_first_fit}
use Rattle.lanes.proofs.service_laws.law_of_first_fit.Goals as goal

pub returns : goal.returns
returns c = chunks_first_fit
