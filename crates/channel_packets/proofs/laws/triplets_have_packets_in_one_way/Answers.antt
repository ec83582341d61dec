use Rattle.channel_packets.proofs.CutLemmas.{packets-unique, packets_of, packets_of-are}
use Rattle.channel_packets.proofs.LawLemmas.{packets-same}
use Rattle.channel_packets.proofs.laws.triplets_have_packets_in_one_way.Goals as goal

pub returns-clause-some : goal.returns-clause-some
returns-clause-some c = λ triplets. (packets_of triplets, packets_of-are triplets)

pub returns-clause-one : goal.returns-clause-one
returns-clause-one c = packets-unique

pub returns-clause-same : goal.returns-clause-same
returns-clause-same c = packets-same
