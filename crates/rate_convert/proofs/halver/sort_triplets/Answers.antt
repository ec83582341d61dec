use Rattle.std.proofs.Common.{◌∙◌, List, ap, length, subst, sym}
use Rattle.cc_data.specs.declared.triplet.Triplet.{Triplet}
use Rattle.rate_convert.specs.SortedTriplets.{AreSorted}
use Rattle.rate_convert.proofs.SortedLemmas.{count_misfit, sorted_frame}
use Rattle.rate_convert.proofs.halver.sort_triplets.Goals as goal

pub returns-then-count-ne-TWENTY-clause-sorted : goal.returns-then-count-ne-TWENTY-clause-sorted
returns-then-count-ne-TWENTY-clause-sorted c = λ bytes earlier last had are at.
    let seen = c.triplet_count.ensures bytes earlier last had are in
    count_misfit earlier last c.triplet_count.result at
    (λ twenty. c.if-count-ne-TWENTY.true (ap length (c.triplets-received.ensures bytes earlier last had are) ∙ sym seen ∙ twenty), seen)

pub returns-in-Some-clause-sorted : goal.returns-in-Some-clause-sorted
returns-in-Some-clause-sorted c = λ bytes earlier last had are at.
    let received = c.triplets-received.ensures bytes earlier last had are in
    c.in-Some.ensures.some earlier last (record { rate = at; count = sym (ap length received) ∙ c.if-count-ne-TWENTY.false })
    (subst (λ (ts : List Triplet). AreSorted ts c.of-sorted.result) received c.of-sorted.ensures)

pub returns-in-None-clause-sorted : goal.returns-in-None-clause-sorted
returns-in-None-clause-sorted c = λ bytes earlier last had are at.
    let received = c.triplets-received.ensures bytes earlier last had are in
    sorted_frame last c.of-sorted.result (record { rate = at; count = sym (ap length received) ∙ c.if-count-ne-TWENTY.false })
    (subst (λ (ts : List Triplet). AreSorted ts c.of-sorted.result) received c.of-sorted.ensures)
    c.in-None.ensures.ones c.in-None.ensures.twos c.in-None.ensures.channel
