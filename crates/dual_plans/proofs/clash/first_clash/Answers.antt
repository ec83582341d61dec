use Rattle.std.proofs.Common.{arith}
use Rattle.dual_plans.proofs.ClashLemmas.{both_meet, next_first, next_second, no_first, no_second}
use Rattle.dual_plans.proofs.clash.first_clash.Goals as goal

pub loop-index-preserved-then-end-from : goal.loop-index-preserved-then-end-from
loop-index-preserved-then-end-from c =
    next_first c.args.firsts.now c.args.seconds.now c.loop-index.index c.loop-index.other (record { slot = 0; cue = 0 }) c.loop-index-test.true c.if-other-seconds.true
    c.loop-index.invariant (omega (arith, c.end.ensures, c.from.ensures, c.if-end-from.true))

pub loop-index-preserved : goal.loop-index-preserved
loop-index-preserved c =
    next_second c.args.firsts.now c.args.seconds.now c.loop-index.index c.loop-index.other (record { slot = 0; cue = 0 }) c.loop-index-test.true c.if-other-seconds.true
    c.loop-index.invariant (omega (arith, c.end-else-end-from.ensures, c.from-else-end-from.ensures, c.if-end-from-2.true))

pub returns-else-end-from-2 : goal.returns-else-end-from-2
returns-else-end-from-2 c =
    both_meet c.args.firsts.now c.args.seconds.now c.loop-index.index c.loop-index.other (record { slot = 0; cue = 0 }) c.loop-index-test.true c.if-other-seconds.true
    c.loop-index.invariant (omega (arith, c.end-else-end-from.ensures, c.from-else-end-from.ensures, c.if-end-from-2.false))
    (omega (arith, c.end.ensures, c.from.ensures, c.if-end-from.false))

pub returns-else-other-seconds : goal.returns-else-other-seconds
returns-else-other-seconds c = no_second c.args.firsts.now c.args.seconds.now c.loop-index.index c.loop-index.other c.if-other-seconds.false c.loop-index.invariant

pub returns-after-loop-index : goal.returns-after-loop-index
returns-after-loop-index c = no_first c.args.firsts.now c.args.seconds.now c.loop-index.index c.loop-index.other c.loop-index-test.false c.loop-index.invariant
