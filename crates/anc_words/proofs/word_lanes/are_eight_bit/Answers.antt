use Rattle.anc_words.proofs.LaneLemmas.{eight_bit-lanes, low-bytes}
use Rattle.anc_words.proofs.word_lanes.are_eight_bit.Goals as goal

pub odd_ones-odd-requires : goal.odd_ones-odd-requires
odd_ones-odd-requires c = low-bytes c.args.words c.fits-words.0

pub returns : goal.returns
returns c = eight_bit-lanes c.args.words c.odd_ones-odd.result c.fits-words.0 c.fits-words.1 c.odd_ones-odd.ensures
