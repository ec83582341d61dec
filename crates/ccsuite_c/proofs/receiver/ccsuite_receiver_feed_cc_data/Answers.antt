use Rattle.std.proofs.Common.{subst, sym}
use Rattle.std.specs.Prelude.{Option}
use Rattle.caption_packets.specs.FrameWords.{cc_data_words}
use Rattle.ccsuite_c.specs.Receivers.{ReceivesAnswer}
use Rattle.ccsuite_c.specs.declared.state.State.{State}
use Rattle.ccsuite_c.proofs.receiver.ccsuite_receiver_feed_cc_data.Goals as goal

pub returns-in-Some-clause-feeds : goal.returns-in-Some-clause-feeds
returns-in-Some-clause-feeds c = λ r before rate_is is had frame.
    subst (λ (s : Option State). ReceivesAnswer before (cc_data_words c.args.cc_data.now rate_is c.args.counter) r c.feed_cc_data-code.result c.feed_cc_data-code.new.fed s)
    (sym c.of.ensures)
    (c.feed_cc_data-code.ensures.feeds r before rate_is (cc (c.in-Some.ensures.taken)) had frame)
