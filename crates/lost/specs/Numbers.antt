-- Between crates: the program's answer stands on none of these definitions.
-- The numbers of frames that arrive, as a concealing receiver tells them: counters of distribution packets count modulo 65,536 (SMPTE
-- ST 334-2, cdp_hdr_sequence_cntr), and it counts on from the first one's.
use Rattle.std.specs.Prelude.{◌≡◌, ℕ, suc, ◌+◌, ◌<◌, List, [], ◌∷◌, ◌++◌}
use Rattle.cue_lists.specs.Listing.{Listing}
use Rattle.frame_carrier.specs.Planned.{Placement}
use Rattle.cc_conceal.specs.Concealed.{missing_before, number_of_last}
use Rattle.lost.specs.Delivered.{AreDelivered, delivered_packets}

-- the last of frames
abbrev pub last_of : ℕ → List ℕ → ℕ
last_of first [] = first
last_of first (next ∷ others) = last_of next others

-- where the first frame that came is below 65,536, the number that is counted for the last one is its own
abbrev pub FramesAreNumbered : Type 0
FramesAreNumbered = (list : Listing) (placed : Placement) (first : ℕ) (others : List ℕ) → AreDelivered (first ∷ others) → first < 65536
    → number_of_last (delivered_packets list placed (first ∷ others)) ≡ last_of first others

-- and as many frames are counted as missing as lie between it and the one that came before it
abbrev pub MissingAreCounted : Type 0
MissingAreCounted = (list : Listing) (placed : Placement) (earlier : List ℕ) (former frame : ℕ) → AreDelivered (earlier ++ former ∷ frame ∷ [])
    → suc former + missing_before (delivered_packets list placed (earlier ++ former ∷ frame ∷ [])) ≡ frame
