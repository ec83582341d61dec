use Rattle.channel_packets.proofs.LawLemmas.{packets-append}
use Rattle.channel_packets.proofs.laws.packets_are_joined.Goals as goal

pub returns : goal.returns
returns c = packets-append
