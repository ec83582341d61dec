use Rattle.mcc_commands.proofs.ImportedOffenceLemmas.{offends_stays, one_first}
use Rattle.mcc_commands.proofs.imported_laws.offences_are_one.Goals as goal

pub returns-clause-one : goal.returns-clause-one
returns-clause-one c = one_first

pub returns-clause-stay : goal.returns-clause-stay
returns-clause-stay c = offends_stays
