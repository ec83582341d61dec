use Rattle.mcc_files.proofs.FirstLemmas.{first_offence}
use Rattle.mcc_files.proofs.OneLemmas.{offence_is_read, one_offence}
use Rattle.mcc_files.proofs.ReadLemmas.{payload_is_read}
use Rattle.mcc_files.proofs.payload_laws.other_texts_offend.Goals as goal

pub returns-clause-offence : goal.returns-clause-offence
returns-clause-offence c = first_offence

pub returns-clause-refused : goal.returns-clause-refused
returns-clause-refused c = offence_is_read

pub returns-clause-none : goal.returns-clause-none
returns-clause-none c =
    λ text refusal payload offence payload_is.
    let refused = offence_is_read text refusal offence in
    let read = payload_is_read payload text payload_is in
    cc

pub returns-clause-one : goal.returns-clause-one
returns-clause-one c = one_offence
