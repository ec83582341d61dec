use Rattle.std.proofs.Common.{subst, sym}
use Rattle.std.specs.Prelude.{Option}
use Rattle.ccsuite_c.specs.Receivers.{ReceivesAnswer}
use Rattle.ccsuite_c.specs.declared.state.State.{State}
use Rattle.ccsuite_c.proofs.receiver.ccsuite_receiver_feed.Goals as goal

pub returns-in-Some-clause-feeds : goal.returns-in-Some-clause-feeds
returns-in-Some-clause-feeds c = λ r before is had.
    subst (λ (s : Option State). ReceivesAnswer before c.args.bytes.now r c.feed-code.result c.feed-code.new.fed s) (sym c.of.ensures)
    (c.feed-code.ensures.feeds r before (cc (c.in-Some.ensures.taken)) had)
