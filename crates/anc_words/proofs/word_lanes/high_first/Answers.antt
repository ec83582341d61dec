use Rattle.anc_words.proofs.LaneLemmas.{high_first-lanes}
use Rattle.anc_words.proofs.word_lanes.high_first.Goals as goal

pub returns : goal.returns
returns c = high_first-lanes c.args.words c.fits-words.0 c.fits-words.1
