-- Believed in part: the library's answers stand on some of these definitions.
-- Triplets that count, and those after the last one of them (CTA-708-E, cc_valid).
use Rattle.std.specs.Prelude.{◌≡◌, false, List, [], ◌∷◌, ◌++◌}
use Rattle.cc_base.specs.Steps.{front_from}
use Rattle.cc_data.specs.declared.triplet.Triplet.{Triplet}
use Rattle.cc_receiver.specs.Gathering.{one_more}

-- after more triplets, as many as there is room for
abbrev pub with_more : List Triplet → List Triplet → List Triplet
with_more triplets more = front_from (one_more 81) triplets more

-- none of these counts
abbrev pub NoneCounts : List Triplet → Type 0
NoneCounts [] = Unit {0}
NoneCounts (t ∷ ts) = (t.valid ≡ false) × NoneCounts ts

-- the triplets begin with a front, and none after it counts
pub record HasFront (front triplets : List Triplet) : Type 0 where
  pub others : List Triplet
  pub joined : triplets ≡ front ++ others
  pub none : NoneCounts others
