use Rattle.mcc_commands.proofs.ImportedFrontLemmas.{packets_go_on}
use Rattle.mcc_commands.proofs.imported_laws.packets_go_on.Goals as goal

pub returns : goal.returns
returns c = packets_go_on
