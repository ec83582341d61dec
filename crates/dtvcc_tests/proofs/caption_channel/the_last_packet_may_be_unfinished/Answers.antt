use Rattle.channel_packets.proofs.CutLemmas.{packets_of-are}
use Rattle.dtvcc_tests.proofs.caption_channel.the_last_packet_may_be_unfinished.Goals as goal

pub returns-clause-packet : goal.returns-clause-packet
returns-clause-packet c = packets_of-are _
