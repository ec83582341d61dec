use Rattle.anc_words.proofs.WordsFileLemmas.{ArePackets-unique, IsWordsFile-unique}
use Rattle.anc_words.proofs.laws.files_are_read_one_way.Goals as goal

pub returns-clause-words : goal.returns-clause-words
returns-clause-words c = ArePackets-unique

pub returns-clause-bytes : goal.returns-clause-bytes
returns-clause-bytes c = IsWordsFile-unique
