use Rattle.mcc_files.proofs.ReadLemmas.{payload_is_read}
use Rattle.mcc_files.proofs.SoundLemmas.{read_is_payload}
use Rattle.mcc_files.proofs.payload_laws.payloads_are_read.Goals as goal

pub returns-clause-read : goal.returns-clause-read
returns-clause-read c = payload_is_read

pub returns-clause-payloads : goal.returns-clause-payloads
returns-clause-payloads c = read_is_payload
