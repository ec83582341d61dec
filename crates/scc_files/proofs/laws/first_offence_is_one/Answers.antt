use Rattle.scc_files.proofs.Unique.{no_offence, offence_once}
use Rattle.scc_files.proofs.laws.first_offence_is_one.Goals as goal

pub returns-clause-one : goal.returns-clause-one
returns-clause-one c = offence_once

pub returns-clause-none : goal.returns-clause-none
returns-clause-none c = no_offence
