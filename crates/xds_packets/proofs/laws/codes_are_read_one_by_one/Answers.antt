use Rattle.xds_packets.proofs.OneByOneLemmas.{codes_are_read_one_by_one}
use Rattle.xds_packets.proofs.laws.codes_are_read_one_by_one.Goals as goal

pub returns : goal.returns
returns c = codes_are_read_one_by_one
