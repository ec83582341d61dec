use Rattle.anc_words.proofs.WordsFileLemmas.{IsWordsFile-nil, IsWordsFile-one, IsWordsFile-append, IsWordsFile-first}
use Rattle.anc_words.proofs.laws.files_are_joined.Goals as goal

pub returns-clause-none : goal.returns-clause-none
returns-clause-none c = IsWordsFile-nil

pub returns-clause-one : goal.returns-clause-one
returns-clause-one c = IsWordsFile-one

pub returns-clause-joined : goal.returns-clause-joined
returns-clause-joined c = IsWordsFile-append

pub returns-clause-first : goal.returns-clause-first
returns-clause-first c = IsWordsFile-first
