use Rattle.std.proofs.Common.{sym, ◌∙◌}
use Rattle.anc_words.proofs.WordLemmas.{AreWords-words, AreWords-bytes}
use Rattle.anc_words.proofs.laws.words_are_spelled_one_way.Goals as goal

pub returns-clause-words : goal.returns-clause-words
returns-clause-words c = λ bytes words others are other. sym (AreWords-words bytes words are) ∙ AreWords-words bytes others other

pub returns-clause-bytes : goal.returns-clause-bytes
returns-clause-bytes c = λ bytes others words are other. AreWords-bytes bytes words are ∙ sym (AreWords-bytes others words other)
