use Rattle.words_laws.proofs.VerifiedLemmas.{built_verified}
use Rattle.words_laws.proofs.laws.built_words_are_verified.Goals as goal

pub returns : goal.returns
returns c = built_verified
