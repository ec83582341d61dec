use Rattle.std.proofs.Common.{◌≡◌, ◌∙◌, ℕ, List, ap, subst}
use Rattle.std.specs.Prelude.{Some}
use Rattle.caption_packets.specs.FrameWords.{cc_data_words}
use Rattle.cc_base.specs.declared.rate.Rate.{Rate}
use Rattle.ccsuite_c.specs.Receivers.{ReceivesAnswer}
use Rattle.ccsuite_c.proofs.receiver.feed_cc_data.Goals as goal

pub returns-in-Some-clause-feeds : goal.returns-in-Some-clause-feeds
returns-in-Some-clause-feeds c = λ r before rate_is is had frame.
    let some = c.in-Some.ensures.some in
    let same : some.0 ≡ rate_is = cc (some.1.rate_is, frame.rate_is) in
    subst (λ (bytes : List ℕ). ReceivesAnswer before bytes r c.feed.result c.feed.new.fed (Some c.feed.new.state))
    (c.deref.ensures.0 ∙ some.2 ∙ ap (λ (rate : Rate). cc_data_words c.args.cc_data.now rate c.args.counter) same)
    (c.feed.ensures.feeds r before is had)

pub returns-in-Some-clause-argument : goal.returns-in-Some-clause-argument
returns-in-Some-clause-argument c = λ r is none.
    let some = c.in-Some.ensures.some in
    absurd (none some.0 some.1)

pub returns-then-is_some-clause-feeds : goal.returns-then-is_some-clause-feeds
returns-then-is_some-clause-feeds c = λ r before rate_is is had frame. absurd (c.in-None.ensures.none rate_is frame)
