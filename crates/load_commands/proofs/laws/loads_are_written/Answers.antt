use Rattle.load_commands.proofs.WrittenLemmas.{list_written}
use Rattle.load_commands.proofs.laws.loads_are_written.Goals as goal

pub returns : goal.returns
returns c = list_written
