use Rattle.mcc_commands.proofs.EachLemmas.{every_input}
use Rattle.mcc_commands.proofs.imported_laws.every_input_is_imported_or_offends_or_passes_a_limit.Goals as goal

pub returns : goal.returns
returns c = every_input
