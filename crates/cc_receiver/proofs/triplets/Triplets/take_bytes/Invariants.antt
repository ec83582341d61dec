use Rattle.std.proofs.Common.{◌≡◌, ◌++◌, List, length}
use Rattle.cc_data.specs.declared.triplet.Triplet.{Triplet as TripletOf}
use Rattle.cc_data.specs.Triplets.{triplets_of}
use Rattle.cc_receiver.specs.Counting.{with_more}
use Rattle.cc_receiver.specs.TripletLists.{HasTriplets}
use Rattle.cc_receiver.proofs.triplets.Triplets.take_bytes.Given as goal

-- some triplets were taken, and the others stand in the rest
abbrev pub invariant-loop-triplet : goal.invariant-loop-triplet
invariant-loop-triplet l =
    (triplets : List TripletOf) → HasTriplets triplets l.fn.self
    → (taken : List TripletOf) × HasTriplets (with_more triplets taken) l.self × (taken ++ triplets_of l.rest ≡ triplets_of l.bytes)

abbrev pub decreases-loop-triplet : goal.decreases-loop-triplet
decreases-loop-triplet l = length l.rest
