use Rattle.load_commands.proofs.LoadRoomLemmas.{list_placed}
use Rattle.load_commands.proofs.laws.loads_are_placed.Goals as goal

pub returns : goal.returns
returns c = list_placed
