use Rattle.xds_packets.proofs.FollowLemmas.{packets_can_be_written}
use Rattle.xds_packets.proofs.laws.packets_can_be_written.Goals as goal

pub returns : goal.returns
returns c = packets_can_be_written
