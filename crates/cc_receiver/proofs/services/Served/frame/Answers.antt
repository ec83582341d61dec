use Rattle.std.proofs.Common.{arith, ◌∙◌, ◌+◌, ◌++◌, ap, append-nil, drop, subst, sym, take}
use Rattle.std.proofs.lemmas.List.{take-append-drop, take_all, take_more}
use Rattle.cc_receiver.specs.Channels.{HasHeard}
use Rattle.cc_receiver.specs.Serving.{HasServed, followed_by, given_by}
use Rattle.cc_receiver.proofs.ServingLemmas.{next_heard, served_more}
use Rattle.cc_receiver.proofs.services.Served.frame.Goals as goal

pub loop-triplet-init : goal.loop-triplet-init
loop-triplet-init c = record {
  few = omega (arith, c.frames.ensures, c.if-frames-ge-MOST_FRAMES.false);
  count = c.tick.ensures.frames;
  served = λ before earlier last has heard. record {
    heard = subst (λ ts. HasHeard ts c.args.self.now.channel) (sym (append-nil before)) has.heard;
    leads = c.tick.ensures.leads earlier last has.leads;
  };
}

pub loop-triplet-preserved : goal.loop-triplet-preserved
loop-triplet-preserved c =
    let triplets = c.args.triplets.now in
    let i = c.loop-triplet.triplet-index in
    let more = take_more triplets i _ c.loop-triplet-test.true in
    record {
      few = c.loop-triplet.invariant.few;
      count = c.triplet.ensures.frames ∙ c.loop-triplet.invariant.count;
      served = λ before earlier last has heard.
          subst (λ ts. HasServed (before ++ ts) (followed_by earlier last) (given_by c.args.rate before ts) c.triplet.new.self) (sym more)
          (served_more c.args.rate before (take i triplets) _ (followed_by earlier last) c.triplet.new.self
          (c.triplet.ensures.served (before ++ take i triplets) (followed_by earlier last) (given_by c.args.rate before (take i triplets))
          (c.loop-triplet.invariant.served before earlier last has heard)
          (next_heard before (take i triplets) (drop (i + 1) triplets) triplets _
          (sym (take-append-drop (i + 1) triplets) ∙ ap (λ ts. ts ++ drop (i + 1) triplets) more) heard)));
    }

pub returns-clause-served : goal.returns-clause-served
returns-clause-served c = λ before earlier last has few heard.
    subst (λ ts. HasServed (before ++ ts) (followed_by earlier last) (given_by c.args.rate before ts) c.loop-triplet.self)
    (take_all c.loop-triplet.triplet-index c.args.triplets.now (omega arith)) (c.loop-triplet.invariant.served before earlier last has heard)
