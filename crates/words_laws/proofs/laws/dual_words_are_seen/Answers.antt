use Rattle.words_laws.proofs.SeenLemmas.{dual_seen}
use Rattle.words_laws.proofs.laws.dual_words_are_seen.Goals as goal

pub returns : goal.returns
returns c = dual_seen
