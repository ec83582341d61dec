-- Believed in part: the program's answer stands on some of these definitions.
-- What the frames of two lists show: the first list on CC1 and CC3, the second on CC2 and CC4.
use Rattle.std.specs.Prelude.{ℕ}
use Rattle.line21_codes.specs.declared.channels.Chan.TheVariants.{Cc1, Cc2, Cc3, Cc4}
use Rattle.cue_lists.specs.AuthoredGrid.{IsSettled, authored_grid}
use Rattle.cue_lists.specs.Listing.{Listing}
use Rattle.services_shown.specs.Showing.{ColumnsShow, Grids, Telling}
use Rattle.dual_plans.specs.DualPlacement.{DualPlacement, IsDualPlaced, dual_columns}
use Rattle.dual_plans.specs.FieldPlaces.{GoTogether}

-- at which frames it is known what a channel shows: the ones that are settled for it by its own list
abbrev pub dual_told : Listing → Listing → Telling
dual_told one two Cc1 frame = IsSettled Cc1 one.cues frame
dual_told one two Cc2 frame = IsSettled Cc1 two.cues frame
dual_told one two Cc3 frame = IsSettled Cc3 one.cues frame
dual_told one two Cc4 frame = IsSettled Cc3 two.cues frame

abbrev pub dual_grids : Listing → Listing → Grids
dual_grids one two Cc1 frame = authored_grid Cc1 one.cues frame
dual_grids one two Cc2 frame = authored_grid Cc1 two.cues frame
dual_grids one two Cc3 frame = authored_grid Cc3 one.cues frame
dual_grids one two Cc4 frame = authored_grid Cc3 two.cues frame

abbrev pub BothListsAreShown : Type 0
BothListsAreShown = (one two : Listing) (placed : DualPlacement) → GoTogether one two → IsDualPlaced one two placed → (n : ℕ)
    → ColumnsShow (dual_told one two) (dual_grids one two) n (dual_columns one two placed)
