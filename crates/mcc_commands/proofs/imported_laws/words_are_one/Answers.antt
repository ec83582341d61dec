use Rattle.mcc_commands.proofs.ImportedWordsLemmas.{one_words, words_go_on}
use Rattle.mcc_commands.proofs.imported_laws.words_are_one.Goals as goal

pub returns-clause-one : goal.returns-clause-one
returns-clause-one c = one_words

pub returns-clause-on : goal.returns-clause-on
returns-clause-on c = words_go_on
