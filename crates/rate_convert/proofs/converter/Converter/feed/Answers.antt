use Rattle.std.proofs.Common.{◌≡◌, ◌+◌, ◌++◌, ◌∷◌, [], arith, subst, sym, take, Err, rules}
use Rattle.cc_receiver.proofs.FedFrames.{counts_none, frame_more}
use Rattle.cc_receiver.specs.Feeds.{Counts, Feeds}
use Rattle.cc_receiver.specs.Receivers.{frame_count}
use Rattle.rate_convert.specs.Halvers.{misfit_of}
use Rattle.rate_convert.proofs.ConverterLemmas.{converted_still, none_stands, stands_on}
use Rattle.rate_convert.proofs.converter.Converter.feed.Goals as goal

pub returns-in_err-fed-clause-converts : goal.returns-in_err-fed-clause-converts
returns-in_err-fed-clause-converts c = λ before had.
    let refused = c.in_err-fed.ensures.feeds before had.received in
    let answer : c.from_residual.result ≡ Err c.in_err-fed.field-0.0 = search rules in
    rw answer (converted_still before c.args.bytes.now c.args.self.now c.feed.new.self had refused.received refused.stays)

pub returns-in_err-fed-clause-feeds : goal.returns-in_err-fed-clause-feeds
returns-in_err-fed-clause-feeds c = λ before had.
    let answer : c.from_residual.result ≡ Err c.in_err-fed.field-0.0 = search rules in
    subst (Feeds before c.args.bytes.now c.args.self.now.input c.feed.new.self) (sym answer) (c.in_err-fed.ensures.feeds before had.received)

pub frame-requires-clause-some : goal.frame-requires-clause-some
frame-requires-clause-some c =
    let fed = c.in_ok-fed.ensures.feeds c.requires.on.0 c.requires.on.1.received in
    let counted : frame_count c.feed.new.self ≡ frame_count c.args.self.now.input + 1 =
    subst (Counts (frame_count c.args.self.now.input) (frame_count c.feed.new.self)) c.in-Caption.is fed.counts in
    omega (arith, counted)

pub frame-requires-clause-few : goal.frame-requires-clause-few
frame-requires-clause-few c =
    let fed = c.in_ok-fed.ensures.feeds c.requires.on.0 c.requires.on.1.received in
    let few = c.requires.few in
    let counted : frame_count c.feed.new.self ≡ frame_count c.args.self.now.input + 1 =
    subst (Counts (frame_count c.args.self.now.input) (frame_count c.feed.new.self)) c.in-Caption.is fed.counts in
    omega (arith, counted, few)

pub returns-in-Caption-clause-converts : goal.returns-in-Caption-clause-converts
returns-in-Caption-clause-converts c = λ before had.
    let fed = c.in_ok-fed.ensures.feeds before had.received in
    let counted : frame_count c.feed.new.self ≡ frame_count c.args.self.now.input + 1 =
    subst (Counts (frame_count c.args.self.now.input) (frame_count c.feed.new.self)) c.in-Caption.is fed.counts in
    let next = frame_more before (take c.in_ok-fed.fed.used c.args.bytes.now) c.args.self.now.input c.feed.new.self had.frames had.frames_are had.received fed.received counted in
    let halved = none_stands had.frames c.args.self.now.halver had.stands c.requires.none in
    record {
      received = fed.received;
      frames = had.frames ++ next.frame ∷ [];
      frames_are = next.frames_are;
      stands = stands_on (misfit_of c.frame.new.self) had.frames next.frame c.frame.new.self halved.fit
          (c.frame.ensures (before ++ take c.in_ok-fed.fed.used c.args.bytes.now) had.frames next.frame fed.received next.frames_are halved);
    }

pub returns-in-Caption-clause-feeds : goal.returns-in-Caption-clause-feeds
returns-in-Caption-clause-feeds c = λ before had. c.in_ok-fed.ensures.feeds before had.received

pub returns-in_default-clause-converts : goal.returns-in_default-clause-converts
returns-in_default-clause-converts c = λ before had.
    let fed = c.in_ok-fed.ensures.feeds before had.received in
    converted_still before (take c.in_ok-fed.fed.used c.args.bytes.now) c.args.self.now c.feed.new.self had fed.received
    (counts_none (frame_count c.args.self.now.input) (frame_count c.feed.new.self) c.in_ok-fed.fed.ended c.in_default.not-Caption fed.counts)

pub returns-in_default-clause-feeds : goal.returns-in_default-clause-feeds
returns-in_default-clause-feeds c = λ before had. c.in_ok-fed.ensures.feeds before had.received
