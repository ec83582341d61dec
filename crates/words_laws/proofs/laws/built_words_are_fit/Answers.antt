use Rattle.words_laws.proofs.ConvertedLemmas.{built_fit}
use Rattle.words_laws.proofs.laws.built_words_are_fit.Goals as goal

pub returns : goal.returns
returns c = built_fit
