use Rattle.lanes.proofs.ServiceLaneLemmas.{placed_within}
use Rattle.lanes.proofs.service_laws.law_of_rooms.Goals as goal

pub returns : goal.returns
returns c = placed_within
