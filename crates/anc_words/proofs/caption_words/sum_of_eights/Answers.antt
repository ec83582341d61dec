use Rattle.std.proofs.Common.{arith, ◌∙◌, sym}
use Rattle.anc_words.proofs.LaneLemmas.{sums-all, sums-next, sums-wrong}
use Rattle.anc_words.proofs.caption_words.sum_of_eights.Goals as goal

pub returns-then-not-are_eight_bit : goal.returns-then-not-are_eight_bit
returns-then-not-are_eight_bit c =
    sums-wrong c.args.eights.now c.loop-eight.eight-index c.lanes-words.result c.loop-eight-test.true c.lanes-words.ensures (sym c.are_eight_bit.ensures ∙ c.if-not-are_eight_bit.true)

pub loop-eight-preserved : goal.loop-eight-preserved
loop-eight-preserved c =
    sums-next c.args.eights.now c.loop-eight.eight-index c.loop-eight.sums c.lanes-words.result c.loop-eight-test.true c.lanes-words.ensures
    (sym c.are_eight_bit.ensures ∙ c.if-not-are_eight_bit.false) (omega arith) c.loop-eight.invariant

pub returns : goal.returns
returns c = sums-all c.args.eights.now c.loop-eight.eight-index c.loop-eight.sums (omega (arith, c.loop-eight-test.false)) c.loop-eight.invariant
