use Rattle.std.proofs.Common.{arith, ap, ◌∙◌, ◌++◌}
use Rattle.anc_words.proofs.PutWords.{eights-next, eights-total}
use Rattle.anc_words.proofs.packets.put_eights.Goals as goal

pub loop-eight-preserved : goal.loop-eight-preserved
loop-eight-preserved c =
    eights-next c.args.out.now.items c.loop-eight.out.items c.put_bytes.new.out.items c.args.eights.now c.loop-eight.eight-index c.loop-eight.sums c.eight_bit_words-words.result
    c.loop-eight-test.true c.eight_bit_words-words.ensures (omega arith)
    (c.put_bytes.ensures.items ∙ ap (λ bytes. c.loop-eight.out.items ++ bytes) c.high_first.ensures) (omega arith) c.loop-eight.invariant

pub returns-clause-sum : goal.returns-clause-sum
returns-clause-sum c =
    eights-total c.args.out.now.items c.loop-eight.out.items c.args.eights.now c.loop-eight.eight-index c.loop-eight.sums (omega (arith, c.loop-eight-test.false)) c.loop-eight.invariant
