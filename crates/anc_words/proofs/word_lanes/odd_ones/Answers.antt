use Rattle.anc_words.proofs.LaneLemmas.{odd-lanes, swizzle-fits}
use Rattle.anc_words.proofs.word_lanes.odd_ones.Goals as goal

pub swizzle-odd : goal.swizzle-odd
swizzle-odd c = swizzle-fits c.args.bytes c.fits-bytes.0

pub returns : goal.returns
returns c = odd-lanes c.args.bytes c.fits-bytes.0 c.requires
