use Rattle.std.proofs.Common.{◌≡◌, ◌∙◌, ◌+◌, ◌++◌, ◌∷◌, [], Ok, ap, arith, subst, sym, take, Err, rules}
use Rattle.cc_receiver.proofs.FedFrames.{counts_none, frame_more}
use Rattle.cc_receiver.proofs.TakenLemmas.{frames_count}
use Rattle.cc_receiver.specs.Feeds.{Counts, Feeds}
use Rattle.cc_receiver.specs.declared.receiver.Receiver.{Receiver}
use Rattle.cc_receiver.specs.Receivers.{HasReceived, frame_count, receiver_refusal}
use Rattle.cc_conceal.proofs.TakeLemmas.{concealed_still}
use Rattle.cc_conceal.proofs.concealer.Concealer.feed.Goals as goal

pub returns-in_err-fed-clause-conceals : goal.returns-in_err-fed-clause-conceals
returns-in_err-fed-clause-conceals c = λ before had.
    let refused = c.in_err-fed.ensures.feeds before had.received in
    let answer : c.from_residual.result ≡ Err c.in_err-fed.field-0.0 = search rules in
    rw answer (concealed_still before c.args.bytes.now c.args.self.now c.feed.new.self had refused.received refused.stays)

pub returns-in_err-fed-clause-feeds : goal.returns-in_err-fed-clause-feeds
returns-in_err-fed-clause-feeds c = λ before had.
    let answer : c.from_residual.result ≡ Err c.in_err-fed.field-0.0 = search rules in
    subst (Feeds before c.args.bytes.now c.args.self.now.receiver c.feed.new.self) (sym answer) (c.in_err-fed.ensures.feeds before had.received)

pub act-requires-clause-few : goal.act-requires-clause-few
act-requires-clause-few c =
    let had = c.requires.on.1 in
    let ticks = had.conceals.acted.ticks in
    let count = frames_count had.frames c.requires.on.0 c.args.self.now.receiver had.received had.frames_are in
    let few = c.requires.few in
    omega arith

pub act-requires-clause-small : goal.act-requires-clause-small
act-requires-clause-small c =
    let had = c.requires.on.1 in
    let small = had.conceals.acted.small in
    let count = frames_count had.frames c.requires.on.0 c.args.self.now.receiver had.received had.frames_are in
    let few = c.requires.few in
    omega arith

pub returns-in-Caption-clause-conceals : goal.returns-in-Caption-clause-conceals
returns-in-Caption-clause-conceals c = λ before had.
    let fed = c.in_ok-fed.ensures.feeds before had.received in
    let counted : frame_count c.feed.new.self ≡ frame_count c.args.self.now.receiver + 1 =
    subst (Counts (frame_count c.args.self.now.receiver) (frame_count c.feed.new.self)) c.in-Caption.is fed.counts in
    let next = frame_more before (take c.in_ok-fed.fed.used c.args.bytes.now) c.args.self.now.receiver c.feed.new.self had.frames had.frames_are had.received fed.received counted in
    let b = had.conceals.acted.behind in
    let acted = c.act.ensures.acted (before ++ take c.in_ok-fed.fed.used c.args.bytes.now) had.frames next.frame fed.received next.frames_are
    (record {
      counter = had.conceals.acted.counter;
      behind = record { first = b.first; second = b.second; apart = b.apart; beside = b.beside };
      together = had.conceals.acted.together;
      ticks = had.conceals.acted.ticks;
      number = had.conceals.acted.number;
      missing = had.conceals.acted.missing;
      small = had.conceals.acted.small;
      goes_on = had.conceals.acted.goes_on;
    }) in
    let now = subst (HasReceived (before ++ take c.in_ok-fed.fed.used c.args.bytes.now)) (sym c.act.ensures.receiver) fed.received in
    record {
      received = now;
      frames = had.frames ++ next.frame ∷ [];
      frames_are = next.frames_are;
      conceals = record {
        acted = acted;
        bytes = before ++ take c.in_ok-fed.fed.used c.args.bytes.now;
        received = now;
        frames_are = next.frames_are;
      };
    }

pub returns-in-Caption-clause-feeds : goal.returns-in-Caption-clause-feeds
returns-in-Caption-clause-feeds c = λ before had.
    subst (λ (r : Receiver). Feeds before c.args.bytes.now c.args.self.now.receiver r (Ok c.in_ok-fed.fed)) (sym c.act.ensures.receiver)
    (c.in_ok-fed.ensures.feeds before had.received)

pub returns-in-Caption-clause-told : goal.returns-in-Caption-clause-told
returns-in-Caption-clause-told c = ap receiver_refusal c.act.ensures.receiver ∙ c.in_ok-fed.ensures.told

pub returns-in_default-clause-conceals : goal.returns-in_default-clause-conceals
returns-in_default-clause-conceals c = λ before had.
    let fed = c.in_ok-fed.ensures.feeds before had.received in
    concealed_still before (take c.in_ok-fed.fed.used c.args.bytes.now) c.args.self.now c.feed.new.self had fed.received
    (counts_none (frame_count c.args.self.now.receiver) (frame_count c.feed.new.self) c.in_ok-fed.fed.ended c.in_default.not-Caption fed.counts)

pub returns-in_default-clause-feeds : goal.returns-in_default-clause-feeds
returns-in_default-clause-feeds c = λ before had. c.in_ok-fed.ensures.feeds before had.received
