-- Between crates: the program's answer stands on none of these definitions.
-- The pairs of the frames of two lists: their control pairs are doubled, and they are bytes.
use Rattle.cue_lists.specs.Listing.{Listing}
use Rattle.dual_plans.specs.DualPlacement.{DualPlacement, IsDualPlaced, dual_columns}
use Rattle.dual_plans.specs.FieldPlaces.{GoTogether}
use Rattle.services_shown.specs.Sound.{HasFitPairs, IsSoundFrames}

abbrev pub DualPairsAreFit : Type 0
DualPairsAreFit = (one two : Listing) (placed : DualPlacement) → GoTogether one two → IsDualPlaced one two placed
    → HasFitPairs one.frames (dual_columns one two placed)

-- so the frames are sound
abbrev pub DualFramesAreSound : Type 0
DualFramesAreSound = (one two : Listing) (placed : DualPlacement) → GoTogether one two → IsDualPlaced one two placed
    → IsSoundFrames one.rate one.frames (dual_columns one two placed)
