use Rattle.words_files.proofs.EndingLemmas.{file_whole}
use Rattle.words_files.proofs.OffenceLemmas.{Begins-before}
use Rattle.words_files.specs.Verdicts.{layers_of}
use Rattle.words_files.proofs.laws.files_begin_with_their_first_bytes.Goals as goal

pub returns-clause-whole : goal.returns-clause-whole
returns-clause-whole c = λ v. file_whole (layers_of v)

pub returns-clause-begins : goal.returns-clause-begins
returns-clause-begins c = λ v. Begins-before (layers_of v)
