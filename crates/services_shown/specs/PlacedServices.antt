-- Between crates: the program's answer stands on none of these definitions.
-- Where the units of a list's services stand, whatever stands of its caption channels.
use Rattle.std.specs.Prelude.{ℕ}
use Rattle.line21_shown.specs.Listing.{Listing}
use Rattle.line21_shown.specs.Lane.TheVariants.{Service}
use Rattle.frame_carrier.specs.Planned.{IsLanePlaced, Placement}

-- the units of each service stand in the earliest frames in which its lane allows them
abbrev pub AreServicesPlaced : Listing → Placement → Type 0
AreServicesPlaced list placed = (service : ℕ) → IsLanePlaced list (Service service) (placed (Service service))
