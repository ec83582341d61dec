use Rattle.channel_packets.proofs.LawLemmas.{sizes_are_odd}
use Rattle.channel_packets.proofs.ReadLemmas.{packets_fit}
use Rattle.channel_packets.proofs.laws.packets_have_their_sizes.Goals as goal

pub returns-clause-size : goal.returns-clause-size
returns-clause-size c = sizes_are_odd

pub returns-clause-fit : goal.returns-clause-fit
returns-clause-fit c = packets_fit
