use Rattle.std.proofs.Common.{◌<◌}
use Rattle.std.proofs.lemmas.Simd.{Each1-from_get_or}
use Rattle.anc_words.proofs.LaneLemmas.{eight_bit_words-lanes, widened-below}
use Rattle.anc_words.proofs.word_lanes.eight_bit_words.Goals as goal

pub odd_ones-requires : goal.odd_ones-requires
odd_ones-requires c =
    let bytes = c.args.bytes.now in
    widened-below bytes (Each1-from_get_or (λ byte. byte < 256) bytes 0 (λ i _. c.fits-bytes i))

pub returns : goal.returns
returns c =
    let bytes = c.args.bytes.now in
    eight_bit_words-lanes bytes c.odd_ones.result c.told-bytes (Each1-from_get_or (λ byte. byte < 256) bytes 0 (λ i _. c.fits-bytes i)) c.odd_ones.ensures
