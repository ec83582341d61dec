use Rattle.words_commands.proofs.PacketLinesLemmas.{all_packets_are_shown}
use Rattle.words_commands.proofs.laws.all_packets_are_shown.Goals as goal

pub returns : goal.returns
returns c = all_packets_are_shown
