use Rattle.words_laws.proofs.XdsSeenLemmas.{xds_seen}
use Rattle.words_laws.proofs.laws.xds_words_are_seen.Goals as goal

pub returns : goal.returns
returns c = xds_seen
