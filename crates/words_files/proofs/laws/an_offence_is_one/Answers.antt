use Rattle.words_files.proofs.EndingLemmas.{offence_stays}
use Rattle.words_files.proofs.OffenceLemmas.{offence_is_one}
use Rattle.words_files.specs.Verdicts.{layers_of}
use Rattle.words_files.proofs.laws.an_offence_is_one.Goals as goal

pub returns-clause-one : goal.returns-clause-one
returns-clause-one c = offence_is_one

pub returns-clause-stays : goal.returns-clause-stays
returns-clause-stays c = λ v. offence_stays (layers_of v)
