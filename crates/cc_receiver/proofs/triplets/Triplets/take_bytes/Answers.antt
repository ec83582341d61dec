use Rattle.std.proofs.Common.{◌≡◌, [], ◌∷◌, ◌++◌, ap, append_assoc, append-nil, subst, sym, ◌∙◌, arith}
use Rattle.cc_data.specs.Triplets.{triplets_of}
use Rattle.cc_receiver.specs.Counting.{with_more}
use Rattle.cc_receiver.specs.TripletLists.{HasTriplets}
use Rattle.cc_receiver.proofs.CountingLemmas.{with_more-append}
use Rattle.cc_receiver.proofs.FillingLemmas.{none_read, three_read}
use Rattle.cc_receiver.proofs.triplets.Triplets.take_bytes.Goals as goal

pub returns-then-fill_up : goal.returns-then-fill_up
returns-then-fill_up c triplets has =
    let (taken, had, leads) = c.loop-triplet.invariant triplets has in
    subst (λ ts. HasTriplets (with_more triplets ts) c.fill_up.new.self) leads
    (subst (λ ts. HasTriplets ts c.fill_up.new.self) (sym (with_more-append triplets taken (triplets_of c.loop-triplet.rest.now)))
    (c.fill_up.ensures.took (with_more triplets taken) c.if-fill_up.true had))

pub loop-triplet-preserved : goal.loop-triplet-preserved
loop-triplet-preserved c triplets has =
    let (taken, had, leads) = c.loop-triplet.invariant triplets has in
    let triplet = c.read_triplet.result in
    let more = c.in-Some.more.now in
    let split = c.in-Some.ensures.cases in
    let read : triplet ∷ triplets_of more ≡ triplets_of c.loop-triplet.rest.now =
    ap (λ t. t ∷ triplets_of more) c.read_triplet.ensures.value ∙ three_read c.loop-triplet.rest.now c.in-Some.triplet.now more split.0 split.1 split.2 in (
      taken ++ triplet ∷ [],
      subst (λ ts. HasTriplets ts c.push.new.self) (sym (with_more-append triplets taken (triplet ∷ [])))
          (c.push.ensures (with_more triplets taken)
          (subst (λ kept. HasTriplets (with_more triplets taken) kept) (sym (c.fill_up.ensures.none c.if-fill_up.false)) had)),
      append_assoc taken (triplet ∷ []) (triplets_of more) ∙ ap (λ ts. taken ++ ts) read ∙ leads,
    )

pub returns : goal.returns
returns c triplets has =
    let (taken, had, leads) = c.loop-triplet.invariant triplets has in
    let none = none_read c.loop-triplet.rest.now (omega (arith, c.in_default.ensures.cases)) in
    subst (λ ts. HasTriplets (with_more triplets ts) c.loop-triplet.self) (sym (append-nil taken) ∙ ap (λ ts. taken ++ ts) (sym none) ∙ leads) had
