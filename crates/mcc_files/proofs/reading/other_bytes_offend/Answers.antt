use Rattle.mcc_files.proofs.Refused.{first_offence, no_offence, offence_is_read, one_offence}
use Rattle.mcc_files.proofs.reading.other_bytes_offend.Goals as goal

pub returns-clause-offence : goal.returns-clause-offence
returns-clause-offence c = first_offence

pub returns-clause-refused : goal.returns-clause-refused
returns-clause-refused c = offence_is_read

pub returns-clause-none : goal.returns-clause-none
returns-clause-none c = no_offence

pub returns-clause-one : goal.returns-clause-one
returns-clause-one c = one_offence
