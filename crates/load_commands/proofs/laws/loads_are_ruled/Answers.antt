use Rattle.load_commands.proofs.RuledLemmas.{list_ruled}
use Rattle.load_commands.proofs.laws.loads_are_ruled.Goals as goal

pub returns : goal.returns
returns c = list_ruled
