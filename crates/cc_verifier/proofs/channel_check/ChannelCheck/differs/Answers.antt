use Rattle.std.proofs.Common.{◌∙◌, ap, subst, sym}
use Rattle.line21_codes.specs.declared.channels.Chan.{Chan}
use Rattle.line21_screen.specs.Differences.{HasOther}
use Rattle.line21_screen.specs.Grid.{Grid}
use Rattle.cc_receiver.specs.Receivers.{displayed_grid}
use Rattle.cue_lists.specs.AuthoredGrid.{IsSettled, authored_grid}
use Rattle.cc_verifier.proofs.CheckLemmas.{still_agrees, still_knows}
use Rattle.cc_verifier.proofs.channel_check.ChannelCheck.differs.Goals as goal

pub returns-then-still_agrees-clause-agrees : goal.returns-then-still_agrees-clause-agrees
returns-then-still_agrees-clause-agrees c channel former knows leaves told settled other =
    still_agrees channel c.args.cues.now c.args.frame former (displayed_grid c.args.receiver.now channel) c.args.self.now c.args.is_idle knows
    (c.still_agrees.ensures.agrees c.if-still_agrees.true) leaves
    (λ busy. c.still_agrees.ensures.same c.if-still_agrees.true busy ∙ c.displayed-now.ensures
    ∙ ap (λ (ch : Chan). displayed_grid c.args.receiver.now ch) (c.channel.ensures ∙ knows.channel_is)) other

pub returns-then-still_agrees-clause-knows : goal.returns-then-still_agrees-clause-knows
returns-then-still_agrees-clause-knows c channel former knows leaves told =
    still_knows channel c.args.cues.now c.args.frame former (displayed_grid c.args.receiver.now channel) c.args.self.now c.args.is_idle knows
    (c.still_agrees.ensures.agrees c.if-still_agrees.true) leaves
    (λ busy. c.still_agrees.ensures.same c.if-still_agrees.true busy ∙ c.displayed-now.ensures
    ∙ ap (λ (ch : Chan). displayed_grid c.args.receiver.now ch) (c.channel.ensures ∙ knows.channel_is))

pub returns-then-not-is_settled-clause-agrees : goal.returns-then-not-is_settled-clause-agrees
returns-then-not-is_settled-clause-agrees c channel former knows leaves told settled other =
    c.is_settled.ensures.unsettled c.if-not-is_settled.true (subst (λ (ch : Chan). IsSettled ch c.args.cues.now c.args.frame) (sym knows.channel_is) settled)

pub returns-then-not-is_settled-clause-knows : goal.returns-then-not-is_settled-clause-knows
returns-then-not-is_settled-clause-knows c channel former knows leaves told = record {
  channel_is = knows.channel_is;
  stands = knows.stands;
  showed = λ agrees. cc;
  agreed = λ agrees. cc;
}

pub returns-then-shows_other-clause-differs : goal.returns-then-shows_other-clause-differs
returns-then-shows_other-clause-differs c channel former knows leaves told = (
  subst (λ (ch : Chan). IsSettled ch c.args.cues.now c.args.frame) knows.channel_is (c.is_settled.ensures.settled c.if-not-is_settled.false),
  subst (λ (ch : Chan). HasOther (displayed_grid c.args.receiver.now ch) (authored_grid ch c.args.cues.now c.args.frame)) knows.channel_is
      (c.shows_other.ensures.other c.if-shows_other.true),
)

pub returns-clause-agrees : goal.returns-clause-agrees
returns-clause-agrees c channel former knows leaves told settled other =
    c.shows_other.ensures.same c.if-shows_other.false
    (subst (λ (ch : Chan). HasOther (displayed_grid c.args.receiver.now ch) (authored_grid ch c.args.cues.now c.args.frame)) (sym knows.channel_is) other)

pub returns-clause-knows : goal.returns-clause-knows
returns-clause-knows c channel former knows leaves told =
    let now = c.copy_from.ensures ∙ c.displayed-now.ensures ∙ ap (λ (ch : Chan). displayed_grid c.args.receiver.now ch) (c.channel.ensures ∙ knows.channel_is) in
    record {
      channel_is = knows.channel_is;
      stands = knows.stands;
      showed = λ agrees. now;
      agreed = λ agrees other. c.shows_other.ensures.same c.if-shows_other.false
          (subst (λ (ch : Chan). HasOther (displayed_grid c.args.receiver.now ch) (authored_grid ch c.args.cues.now c.args.frame)) (sym knows.channel_is)
          (subst (λ (g : Grid). HasOther g (authored_grid channel c.args.cues.now c.args.frame)) now other));
    }
