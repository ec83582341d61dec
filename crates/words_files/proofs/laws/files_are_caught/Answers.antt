use Rattle.words_files.proofs.CaughtLemmas.{caught_file, file_caught}
use Rattle.words_files.proofs.EndingLemmas.{file_closed}
use Rattle.words_files.specs.Verdicts.{layers_of}
use Rattle.words_files.proofs.laws.files_are_caught.Goals as goal

pub returns-clause-caught : goal.returns-clause-caught
returns-clause-caught c = λ verdict frames bytes is. (file_caught verdict frames bytes is).0

pub returns-clause-unrefused : goal.returns-clause-unrefused
returns-clause-unrefused c = λ verdict frames bytes is. ((file_caught verdict frames bytes is).1, file_closed (layers_of verdict) frames bytes is)

pub returns-clause-file : goal.returns-clause-file
returns-clause-file c = caught_file
