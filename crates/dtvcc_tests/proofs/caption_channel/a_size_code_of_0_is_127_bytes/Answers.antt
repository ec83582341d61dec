use Rattle.channel_packets.proofs.CutLemmas.{packets_of-are}
use Rattle.dtvcc_tests.proofs.caption_channel.a_size_code_of_0_is_127_bytes.Goals as goal

pub returns : goal.returns
returns c = packets_of-are _
