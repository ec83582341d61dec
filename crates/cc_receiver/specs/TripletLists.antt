-- Believed: the library's answers stand on these definitions.
-- The triplets that are kept of a packet.
use Rattle.std.specs.Prelude.{◌≡◌, List, length, take}
use Rattle.cc_data.specs.declared.triplet.Triplet.{Triplet}
use Rattle.cc_receiver.specs.declared.triplets.Triplets.{Triplets}
use Rattle.cc_receiver.specs.Counting.{HasFront}

-- it has these, and the number of those down to the last one that counts
pub record HasTriplets (triplets : List Triplet) (kept : Triplets) : Type 0 where
  pub items : take kept.len kept.cells ≡ triplets
  pub front : List Triplet
  pub size : length front ≡ kept.until
  pub has_front : HasFront front triplets
