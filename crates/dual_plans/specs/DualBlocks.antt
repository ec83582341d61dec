-- Between crates: the program's answer stands on none of these definitions.
-- The service blocks of the frames of two lists are the first list's alone.
use Rattle.cue_lists.specs.Listing.{Listing}
use Rattle.frame_carrier.specs.Planned.{columns_of}
use Rattle.services_shown.specs.OtherPairs.{AreFitAlike}
use Rattle.dual_plans.specs.DualPlacement.{DualPlacement, IsDualPlaced, dual_columns}
use Rattle.dual_plans.specs.FieldPlaces.{GoTogether}

abbrev pub DualBlocksAreFit : Type 0
DualBlocksAreFit = (one two : Listing) (placed : DualPlacement) → GoTogether one two → IsDualPlaced one two placed
    → AreFitAlike one.rate one.frames (columns_of one placed.services) (dual_columns one two placed)
