use Rattle.words_files.proofs.EndingLemmas.{cut_short_is_open, open_is_cut_short}
use Rattle.words_files.proofs.OffenceLemmas.{unoffending_is_unrefused}
use Rattle.words_files.proofs.laws.bytes_are_cut_short_where_something_is_open.Goals as goal

pub returns-clause-cut_short : goal.returns-clause-cut_short
returns-clause-cut_short c = open_is_cut_short

pub returns-clause-unrefused : goal.returns-clause-unrefused
returns-clause-unrefused c = λ verdict bytes refused cut. unoffending_is_unrefused verdict bytes cut.unoffending

pub returns-clause-open : goal.returns-clause-open
returns-clause-open c = λ verdict bytes refused are cut. (cut_short_is_open verdict bytes refused are cut).1
