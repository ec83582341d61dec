use Rattle.channel_packets.proofs.CutLemmas.{packets_of-are}
use Rattle.dtvcc_tests.proofs.caption_channel.other_triplets_are_passed_over.Goals as goal

pub returns : goal.returns
returns c = packets_of-are _
