use Rattle.mcc_files.proofs.ReadLemmas.{payload_is_read}
use Rattle.mcc_files.proofs.WrittenLemmas.{written_is_payload}
use Rattle.mcc_files.proofs.payload_laws.written_payloads_are_payloads.Goals as goal

pub returns-clause-payload : goal.returns-clause-payload
returns-clause-payload c = written_is_payload

pub returns-clause-read : goal.returns-clause-read
returns-clause-read c = λ payload text are written. payload_is_read payload text (written_is_payload payload text are written)
