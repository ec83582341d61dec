use Rattle.line21_codes.proofs.CodeLemmas.{written-code_of, written-odd}
use Rattle.line21_codes.proofs.laws.written_is_read.Goals as goal

pub returns-clause-code : goal.returns-clause-code
returns-clause-code c = written-code_of

pub returns-clause-parity : goal.returns-clause-parity
returns-clause-parity c = written-odd
