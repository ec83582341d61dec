use Rattle.scc_commands.proofs.WrittenLemmas.{front_and_end}
use Rattle.scc_commands.proofs.laws.front_and_end_are_the_file.Goals as goal

pub returns : goal.returns
returns c = front_and_end
