use Rattle.words_files.proofs.OffenceLemmas.{offence_refused, refused_offends, unoffending_is_unrefused, unrefused_is_unoffending}
use Rattle.words_files.proofs.laws.first_offence_exact.Goals as goal

pub returns-clause-refused : goal.returns-clause-refused
returns-clause-refused c = refused_offends

pub returns-clause-offends : goal.returns-clause-offends
returns-clause-offends c = offence_refused

pub returns-clause-unrefused : goal.returns-clause-unrefused
returns-clause-unrefused c = unrefused_is_unoffending

pub returns-clause-unoffending : goal.returns-clause-unoffending
returns-clause-unoffending c = unoffending_is_unrefused
