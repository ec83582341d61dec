use Rattle.std.proofs.Common.{rules, ◌≡◌, ◌++◌, None, ap, append_assoc, append-nil, subst, sym, take, ◌∙◌, arith}
use Rattle.std.proofs.lemmas.List.{take_all, take_more}
use Rattle.cc_receiver.specs.Channels.{HasHeard}
use Rattle.cc_receiver.proofs.channel.Channel.takes.Goals as goal

pub loop-triplet-init : goal.loop-triplet-init
loop-triplet-init c before heard = subst (λ ts. HasHeard ts c.args.self.now) (sym (append-nil before)) heard

pub loop-triplet-preserved : goal.loop-triplet-preserved
loop-triplet-preserved c before heard =
    let triplets = c.args.triplets.now in
    let i = c.loop-triplet.triplet-index in
    let more = take_more triplets i _ c.loop-triplet-test.true in
    let none : c.take.result ≡ None = Prim.search rules in
    subst (λ ts. HasHeard ts c.take.new.self) (append_assoc before (take i triplets) _ ∙ ap (λ ts. before ++ ts) (sym more))
    (c.take.ensures.heard (before ++ take i triplets) (c.loop-triplet.invariant before heard) none)

pub returns : goal.returns
returns c before heard _ =
    subst (λ ts. HasHeard (before ++ ts) c.loop-triplet.self) (take_all c.loop-triplet.triplet-index c.args.triplets.now (omega arith))
    (c.loop-triplet.invariant before heard)
