-- Believed: the program's answer stands on these definitions.
-- The triplets of a frame (CTA-708-E, cc_data()): the pairs of fields 1 and 2, the triplets of its caption channel packet,
-- and after them triplets that don't count up to the rate's number.
use Rattle.std.specs.Prelude.{ℕ, ◌-◌, true, Option, Some, None, List, [], ◌∷◌, ◌++◌, length, replicate}
use Rattle.cc_base.specs.Rate.{triplets_in_frame}
use Rattle.cc_base.specs.declared.rate.Rate.{Rate}
use Rattle.line21_codes.specs.declared.pairs.Pair.{Pair}
use Rattle.cc_data.specs.declared.triplet.Triplet.{Triplet}
use Rattle.cc_data.specs.Triplets.{filler}
use Rattle.frame_scheduler.specs.declared.frames.FrameBytes.{FrameBytes}

-- a pair's triplet, which counts, of the kind of its field: 0 for field 1, and 1 for field 2
abbrev pub pair_triplet : ℕ → Pair → Triplet
pair_triplet kind pair = record { valid = true; kind = kind; a = pair.a; b = pair.b }

-- the triplet of a field, where the frame has a slot of it
abbrev pub field_triplets : ℕ → Option Pair → List Triplet
field_triplets kind None = []
field_triplets kind (Some pair) = pair_triplet kind pair ∷ []

-- the triplets that come before those that don't count
abbrev pub front_triplets : FrameBytes → List Triplet → List Triplet
front_triplets frame packet = field_triplets 0 frame.one ++ (field_triplets 1 frame.two ++ packet)

-- the triplets of a frame with its pairs and the triplets of its packet
abbrev pub frame_triplets : Rate → FrameBytes → List Triplet → List Triplet
frame_triplets rate frame packet =
    front_triplets frame packet ++ replicate (triplets_in_frame rate - length (front_triplets frame packet)) filler
