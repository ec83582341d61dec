use Rattle.std.proofs.Common.{◌+◌, ◌≤◌, ◌++◌, length, take, replicate, ap, subst, sym, ◌∙◌, arith}
use Rattle.std.proofs.lemmas.List.{length-take, take-replicate}
use Rattle.cc_receiver.specs.Counting.{with_more}
use Rattle.cc_data.specs.Triplets.{filler}
use Rattle.cc_receiver.specs.TripletLists.{HasTriplets}
use Rattle.cc_receiver.proofs.CountingLemmas.{fillers_kept}
use Rattle.cc_receiver.proofs.triplets.Triplets.fill_up.Goals as goal

pub returns-in-Some-clause-took : goal.returns-in-Some-clause-took
returns-in-Some-clause-took c triplets did has =
    let own = c.args.self.now in
    let count = c.in-Some.count in
    let few = own.few in
    let long = length-take own.len own.cells in
    let room : length triplets + count ≤ 81 = omega (arith, few, long, ap length has.items, c.if-count-self.true) in
    subst (λ ts. HasTriplets ts c.append.new.self) (sym (ap (with_more triplets) c.in-Some.ensures.fillers))
    (fillers_kept triplets count own c.append.new.self has room
    (c.append.ensures.items ∙ ap (λ ts. ts ++ take count (replicate 81 filler)) has.items
    ∙ ap (λ ts. triplets ++ ts) (take-replicate count 81 filler c.in-Some.ensures.few)) c.append.ensures.until)
