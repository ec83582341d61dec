use Rattle.channel_packets.proofs.CutLemmas.{packets_of-are}
use Rattle.dtvcc_tests.proofs.caption_channel.bytes_without_an_open_packet_are_left_out.Goals as goal

pub returns : goal.returns
returns c = packets_of-are _
