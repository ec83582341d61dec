use Rattle.scc_commands.proofs.RoundTripLemmas.{exported_again}
use Rattle.scc_commands.proofs.laws.import_is_exported_again.Goals as goal

pub returns : goal.returns
returns c = exported_again
