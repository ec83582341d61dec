use Rattle.lanes.proofs.ServiceLaneLemmas.{chunks_one_more}
use Rattle.lanes.proofs.service_laws.law_of_one_more.Goals as goal

pub returns : goal.returns
returns c = chunks_one_more
