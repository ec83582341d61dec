use Rattle.line21_codes.proofs.CodeLemmas.{is_control-code_of, is_control-written}
use Rattle.line21_codes.proofs.laws.control_pairs_are_doubled.Goals as goal

pub returns-clause-read : goal.returns-clause-read
returns-clause-read c = is_control-code_of

pub returns-clause-written : goal.returns-clause-written
returns-clause-written c = is_control-written
