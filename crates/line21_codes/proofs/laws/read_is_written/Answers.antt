use Rattle.line21_codes.proofs.CodeLemmas.{writable_from_read, written-code_of}
use Rattle.line21_codes.proofs.laws.read_is_written.Goals as goal

pub returns-clause-writable : goal.returns-clause-writable
returns-clause-writable c = writable_from_read

pub returns-clause-code : goal.returns-clause-code
returns-clause-code c = λ f pair kept. written-code_of f _ (writable_from_read pair kept)
