use Rattle.mcc_commands.proofs.LimitLemmas.{one_import}
use Rattle.mcc_commands.proofs.ImportedOffenceLemmas.{nothing_offends}
use Rattle.mcc_commands.proofs.imported_laws.imports_are_one.Goals as goal

pub returns-clause-one : goal.returns-clause-one
returns-clause-one c = one_import

pub returns-clause-unoffending : goal.returns-clause-unoffending
returns-clause-unoffending c = nothing_offends
