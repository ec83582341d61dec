use Rattle.words_laws.proofs.ConcealedLemmas.{delivered_answered}
use Rattle.words_laws.proofs.laws.delivered_words_are_concealed.Goals as goal

pub returns : goal.returns
returns c = delivered_answered
