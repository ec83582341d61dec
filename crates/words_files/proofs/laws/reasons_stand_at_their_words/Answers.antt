use Rattle.std.proofs.Common.{refl}
use Rattle.words_files.proofs.ReasonLemmas.{offends_for_one, offends_given, reason_offends}
use Rattle.words_files.proofs.laws.reasons_stand_at_their_words.Goals as goal

pub returns-clause-given : goal.returns-clause-given
returns-clause-given c = offends_given

pub returns-clause-stands : goal.returns-clause-stands
returns-clause-stands c = reason_offends

pub returns-clause-one : goal.returns-clause-one
returns-clause-one c = offends_for_one

pub returns-clause-never : goal.returns-clause-never
returns-clause-never c = λ above p. refl
