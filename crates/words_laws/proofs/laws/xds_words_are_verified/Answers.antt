use Rattle.words_laws.proofs.VerifiedLemmas.{xds_verified}
use Rattle.words_laws.proofs.laws.xds_words_are_verified.Goals as goal

pub returns : goal.returns
returns c = xds_verified
