use Rattle.std.proofs.Common.{◌≡◌, ℕ, List, length}
use Rattle.std.specs.List.{concat, flat_map}
use Rattle.cc_data.specs.declared.triplet.Triplet.{Triplet as TripletOf}
use Rattle.cdp_packets.specs.PacketTriplets.{section_triplets}
use Rattle.cdp_packets.specs.Sections.{AreSections}
use Rattle.cc_receiver.specs.Counting.{with_more}
use Rattle.cc_receiver.specs.TripletLists.{HasTriplets}
use Rattle.cc_receiver.proofs.FilledLemmas.{IsOnTheWay}
use Rattle.cc_receiver.proofs.triplets.Triplets.take_sections.Given as goal

abbrev pub invariant-loop-section : goal.invariant-loop-section
invariant-loop-section l =
    (triplets : List TripletOf) (cut : List (List ℕ)) → AreSections cut → concat cut ≡ l.sections → HasTriplets triplets l.fn.self
    → IsOnTheWay (flat_map section_triplets cut) l.rest (λ ts. HasTriplets (with_more triplets ts) l.self)

abbrev pub decreases-loop-section : goal.decreases-loop-section
decreases-loop-section l = length l.rest
