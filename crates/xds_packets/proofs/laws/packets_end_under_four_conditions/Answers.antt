use Rattle.xds_packets.proofs.EndLemmas.{end_pairs_alone_end, packets_end_here}
use Rattle.xds_packets.proofs.laws.packets_end_under_four_conditions.Goals as goal

pub returns-clause-here : goal.returns-clause-here
returns-clause-here c = packets_end_here

pub returns-clause-alone : goal.returns-clause-alone
returns-clause-alone c = end_pairs_alone_end
