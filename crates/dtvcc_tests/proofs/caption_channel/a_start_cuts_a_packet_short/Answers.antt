use Rattle.channel_packets.proofs.CutLemmas.{packets_of-are}
use Rattle.dtvcc_tests.proofs.caption_channel.a_start_cuts_a_packet_short.Goals as goal

pub returns : goal.returns
returns c = packets_of-are _
