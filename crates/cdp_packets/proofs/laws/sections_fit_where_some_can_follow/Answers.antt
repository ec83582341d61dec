use Rattle.cdp_packets.proofs.FitLemmas.{count_fits-is, id_fits-is}
use Rattle.cdp_packets.proofs.laws.sections_fit_where_some_can_follow.Goals as goal

pub returns-clause-id : goal.returns-clause-id
returns-clause-id c = id_fits-is

pub returns-clause-count : goal.returns-clause-count
returns-clause-count c = count_fits-is
