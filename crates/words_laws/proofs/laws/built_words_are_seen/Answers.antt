use Rattle.words_laws.proofs.SeenLemmas.{built_seen}
use Rattle.words_laws.proofs.laws.built_words_are_seen.Goals as goal

pub returns : goal.returns
returns c = built_seen
