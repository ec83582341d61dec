use Rattle.std.proofs.Common.{◌∙◌, sym, ap}
use Rattle.std.specs.Prelude.{◌||◌, nat_lt}
use Rattle.cc_verifier.proofs.ChannelCursorLemmas.{is_settled_at, is_unsettled_at, settles_last, settles_next}
use Rattle.cc_verifier.proofs.channel_cursor.ChannelCursor.is_settled.Goals as goal

pub returns-then-is_pop-clause-settled : goal.returns-then-is_pop-clause-settled
returns-then-is_pop-clause-settled c told =
    is_settled_at c.args.cues.now c.args.frame c.args.self.now c.requires.timed c.requires.stands
    (settles_next c.args.cues.now c.args.self.now.next c.args.frame c.in-Some.cue.now c.in-Some.ensures.lookup.0 c.in-Some.ensures.lookup.1
    ∙ sym (ap (λ b. b || nat_lt c.args.frame c.in-Some.cue.now.load) c.if-is_pop.ensures))

pub returns-else-is_pop-clause-settled : goal.returns-else-is_pop-clause-settled
returns-else-is_pop-clause-settled c told =
    is_settled_at c.args.cues.now c.args.frame c.args.self.now c.requires.timed c.requires.stands
    (settles_next c.args.cues.now c.args.self.now.next c.args.frame c.in-Some.cue.now c.in-Some.ensures.lookup.0 c.in-Some.ensures.lookup.1
    ∙ sym (ap (λ b. b || nat_lt c.args.frame c.in-Some.cue.now.load) c.if-is_pop.ensures) ∙ told)

pub returns-else-is_pop-clause-unsettled : goal.returns-else-is_pop-clause-unsettled
returns-else-is_pop-clause-unsettled c told settled =
    is_unsettled_at c.args.cues.now c.args.frame c.args.self.now c.requires.stands
    (settles_next c.args.cues.now c.args.self.now.next c.args.frame c.in-Some.cue.now c.in-Some.ensures.lookup.0 c.in-Some.ensures.lookup.1
    ∙ sym (ap (λ b. b || nat_lt c.args.frame c.in-Some.cue.now.load) c.if-is_pop.ensures) ∙ told) settled

pub returns-in-None-clause-settled : goal.returns-in-None-clause-settled
returns-in-None-clause-settled c told =
    is_settled_at c.args.cues.now c.args.frame c.args.self.now c.requires.timed c.requires.stands
    (settles_last c.args.cues.now c.args.self.now.next c.args.frame c.in-None.ensures.lookup.0)
