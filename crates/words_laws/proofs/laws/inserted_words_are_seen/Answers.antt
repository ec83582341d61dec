use Rattle.words_laws.proofs.SeenLemmas.{inserted_seen}
use Rattle.words_laws.proofs.laws.inserted_words_are_seen.Goals as goal

pub returns : goal.returns
returns c = inserted_seen
