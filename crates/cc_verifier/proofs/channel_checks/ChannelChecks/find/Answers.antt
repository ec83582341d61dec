use Rattle.line21_codes.specs.declared.channels.Chan.TheVariants as chan
use Rattle.cc_receiver.specs.Receivers.{displayed_grid}
use Rattle.cc_verifier.proofs.ChannelsLemmas.{first_is_four, first_is_one, first_is_three, first_is_two, none_of_four}
use Rattle.cc_verifier.proofs.channel_checks.ChannelChecks.find.Goals as goal

pub returns-then-differs-clause-first : goal.returns-then-differs-clause-first
returns-then-differs-clause-first c former knows leaves =
    let one = c.differs.ensures.differs chan.Cc1 (former chan.Cc1) knows.cc1 (leaves chan.Cc1) c.if-differs.true in
    record {
      shows = record { settled = one.0; other = one.1 };
      first = first_is_one c.args.cues.now c.args.frame (displayed_grid c.args.receiver.now);
    }

pub returns-then-differs-2-clause-first : goal.returns-then-differs-2-clause-first
returns-then-differs-2-clause-first c former knows leaves =
    let two = c.differs-2.ensures.differs chan.Cc2 (former chan.Cc2) knows.cc2 (leaves chan.Cc2) c.if-differs-2.true in
    let one = c.differs.ensures.agrees chan.Cc1 (former chan.Cc1) knows.cc1 (leaves chan.Cc1) c.if-differs.false in
    record {
      shows = record { settled = two.0; other = two.1 };
      first = first_is_two c.args.cues.now c.args.frame (displayed_grid c.args.receiver.now) (λ shows. one shows.settled shows.other);
    }

pub returns-then-differs-3-clause-first : goal.returns-then-differs-3-clause-first
returns-then-differs-3-clause-first c former knows leaves =
    let three = c.differs-3.ensures.differs chan.Cc3 (former chan.Cc3) knows.cc3 (leaves chan.Cc3) c.if-differs-3.true in
    let one = c.differs.ensures.agrees chan.Cc1 (former chan.Cc1) knows.cc1 (leaves chan.Cc1) c.if-differs.false in
    let two = c.differs-2.ensures.agrees chan.Cc2 (former chan.Cc2) knows.cc2 (leaves chan.Cc2) c.if-differs-2.false in
    record {
      shows = record { settled = three.0; other = three.1 };
      first = first_is_three c.args.cues.now c.args.frame (displayed_grid c.args.receiver.now) (λ shows. one shows.settled shows.other) (λ shows. two shows.settled shows.other);
    }

pub returns-then-differs-4-clause-first : goal.returns-then-differs-4-clause-first
returns-then-differs-4-clause-first c former knows leaves =
    let four = c.differs-4.ensures.differs chan.Cc4 (former chan.Cc4) knows.cc4 (leaves chan.Cc4) c.if-differs-4.true in
    let one = c.differs.ensures.agrees chan.Cc1 (former chan.Cc1) knows.cc1 (leaves chan.Cc1) c.if-differs.false in
    let two = c.differs-2.ensures.agrees chan.Cc2 (former chan.Cc2) knows.cc2 (leaves chan.Cc2) c.if-differs-2.false in
    let three = c.differs-3.ensures.agrees chan.Cc3 (former chan.Cc3) knows.cc3 (leaves chan.Cc3) c.if-differs-3.false in
    record {
      shows = record { settled = four.0; other = four.1 };
      first = first_is_four c.args.cues.now c.args.frame (displayed_grid c.args.receiver.now) (λ shows. one shows.settled shows.other) (λ shows. two shows.settled shows.other)
          (λ shows. three shows.settled shows.other);
    }

pub returns-clause-first : goal.returns-clause-first
returns-clause-first c former knows leaves =
    let one = c.differs.ensures.agrees chan.Cc1 (former chan.Cc1) knows.cc1 (leaves chan.Cc1) c.if-differs.false in
    let two = c.differs-2.ensures.agrees chan.Cc2 (former chan.Cc2) knows.cc2 (leaves chan.Cc2) c.if-differs-2.false in
    let three = c.differs-3.ensures.agrees chan.Cc3 (former chan.Cc3) knows.cc3 (leaves chan.Cc3) c.if-differs-3.false in
    let four = c.differs-4.ensures.agrees chan.Cc4 (former chan.Cc4) knows.cc4 (leaves chan.Cc4) c.if-differs-4.false in
    none_of_four c.args.cues.now c.args.frame (displayed_grid c.args.receiver.now) (λ shows. one shows.settled shows.other) (λ shows. two shows.settled shows.other)
    (λ shows. three shows.settled shows.other) (λ shows. four shows.settled shows.other)

pub returns-clause-knows : goal.returns-clause-knows
returns-clause-knows c former knows leaves none = record {
  cc1 = c.differs.ensures.knows chan.Cc1 (former chan.Cc1) knows.cc1 (leaves chan.Cc1) c.if-differs.false;
  cc2 = c.differs-2.ensures.knows chan.Cc2 (former chan.Cc2) knows.cc2 (leaves chan.Cc2) c.if-differs-2.false;
  cc3 = c.differs-3.ensures.knows chan.Cc3 (former chan.Cc3) knows.cc3 (leaves chan.Cc3) c.if-differs-3.false;
  cc4 = c.differs-4.ensures.knows chan.Cc4 (former chan.Cc4) knows.cc4 (leaves chan.Cc4) c.if-differs-4.false;
}
