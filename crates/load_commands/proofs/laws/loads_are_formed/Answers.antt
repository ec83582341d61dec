use Rattle.load_commands.proofs.FormedLemmas.{list_formed}
use Rattle.load_commands.proofs.laws.loads_are_formed.Goals as goal

pub returns : goal.returns
returns c = list_formed
