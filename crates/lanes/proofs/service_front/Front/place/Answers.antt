use Rattle.std.proofs.Common.{◌≡◌, ◌∙◌, ◌+◌, ◌<◌, ◌≤◌, true, false, ◌&&◌, ◌++◌, ◌∷◌, [], sym, ap, subst, arith, ⊎_elim, length}
use Rattle.std.specs.Prelude.{nat_le}
use Rattle.std.proofs.lemmas.Bool.{and_parts, cases_lt}
use Rattle.dtvcc_author.specs.FrameEvents.{delay_end, event_bytes}
use Rattle.dtvcc_author.specs.Latest.{IsLatestAt}
use Rattle.lanes.specs.FirstFit.{IsFirst}
use Rattle.lanes.specs.CueChunks.{chunk_in}
use Rattle.lanes.specs.ServiceRoom.{IsFront, budget_in, caption_lane, takes}
use Rattle.lanes.proofs.FrontLemmas.{allowed_fits, allowed_now, front_next, front_push}
use Rattle.lanes.proofs.service_front.Front.place.Goals as goal

pub returns-then-admit-clause-some : goal.returns-then-admit-clause-some
returns-then-admit-clause-some c before is first =
    let old = c.loop-self.self in
    let cs = c.args.captions.now in
    let share = c.args.share in
    let kept = c.requires.kept in
    let here = c.loop-self.invariant.front before is in
    let same : c.admit.new.self.frame ≡ old.frame = ap (λ f. f.frame) c.if-admit.ensures.taken in
    let admitted : (nat_le c.args.cue.now.load old.frame && takes old (length c.args.unit.now)) ≡ true = sym c.if-admit.ensures.admits in
    let allowed : caption_lane share cs before (chunk_in c.args.cue.now c.args.unit.now) old.frame =
    allowed_now kept.0 kept.1.0 share cs before old (chunk_in c.args.cue.now c.args.unit.now) kept.1.1 here c.loop-self-test.true admitted in
    subst (λ n. IsFirst (caption_lane share cs before (chunk_in c.args.cue.now c.args.unit.now)) n) (sym same) (record {
      holds = allowed;
      first = λ other also.
          ⊎_elim
          (λ (i : other < old.frame). absurd (c.loop-self.invariant.below before is first other i also))
          (λ (i : old.frame ≤ other). i)
          (cases_lt other old.frame);
    })

pub returns-then-admit-clause-front : goal.returns-then-admit-clause-front
returns-then-admit-clause-front c before is =
    let old = c.loop-self.self in
    let here = c.loop-self.invariant.front before is in
    let admitted : (nat_le c.args.cue.now.load old.frame && takes old (length c.args.unit.now)) ≡ true = sym c.if-admit.ensures.admits in
    let taken = (and_parts (nat_le c.args.cue.now.load old.frame) (takes old (length c.args.unit.now)) admitted).1 in
    let pushed = front_push c.args.share c.args.captions.now before old (chunk_in c.args.cue.now c.args.unit.now) here taken in
    subst (λ f. IsFront c.args.share c.args.captions.now (before ++ ((chunk_in c.args.cue.now c.args.unit.now), f.frame) ∷ []) f) (sym c.if-admit.ensures.taken) pushed

pub overflow_add-self : goal.overflow_add-self
overflow_add-self c =
    let same : c.admit.new.self.frame ≡ c.loop-self.self.frame = ap (λ f. f.frame) c.if-admit.ensures.kept in
    omega arith

pub loop-self-preserved : goal.loop-self-preserved
loop-self-preserved c =
    let old = c.loop-self.self in
    let cs = c.args.captions.now in
    let share = c.args.share in
    let kept = c.requires.kept in
    let unchanged : c.admit.new.self ≡ old = c.if-admit.ensures.kept in
    let frame_was : c.admit.new.self.frame ≡ old.frame = ap (λ f. f.frame) unchanged in
    let frame_is : c.open.new.self.frame ≡ old.frame + 1 = c.open.ensures.frame ∙ ap (λ n. n + 1) frame_was in
    record {
      front = λ before is.
          let here = c.loop-self.invariant.front before is in
          let at : IsLatestAt cs (old.frame + 1) c.pass_to.new.self =
          subst (λ n. IsLatestAt cs (n + 1) c.pass_to.new.self) frame_was
          (c.pass_to.ensures old.frame (omega arith) (subst (λ f. IsLatestAt cs old.frame f.latest) (sym unchanged) here.at)) in
          let at_passed : IsLatestAt cs (c.admit.new.self.frame + 1) c.pass_to.new.self = subst (λ n. IsLatestAt cs (n + 1) c.pass_to.new.self) (sym frame_was) at in
          front_next kept.0 kept.1.0 share cs before old c.open.new.self kept.1.1 here frame_is
          (subst (λ l. IsLatestAt cs (old.frame + 1) l) (sym c.open.ensures.latest) at)
          (subst (λ n. c.open.new.self.room + length (event_bytes (n + 1) cs) ≡ share) frame_was (c.open.ensures.room at_passed))
          (subst (λ f. c.open.new.self.budget ≡ budget_in f.budget (delay_end cs (f.frame + 1)) (f.frame + 1)) unchanged (c.open.ensures.budget at_passed));
      below = λ before is first frame low allowed.
          ⊎_elim
          (λ (i : frame < old.frame). c.loop-self.invariant.below before is first frame i allowed)
          (λ (i : old.frame ≤ frame).
          let now : frame ≡ old.frame = omega arith in
          let fits = allowed_fits share cs before old (chunk_in c.args.cue.now c.args.unit.now) (c.loop-self.invariant.front before is)
          (subst (λ n. caption_lane share cs before (chunk_in c.args.cue.now c.args.unit.now) n) now allowed) in
          let wrong : true ≡ false = sym fits ∙ sym c.if-admit.ensures.admits in
          absurd cc)
          (cases_lt frame old.frame);
    }
