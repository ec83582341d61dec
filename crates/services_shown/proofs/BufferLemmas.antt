-- No byte of the frames of a placed list fills the buffer of a service.
use Rattle.std.proofs.Common.{List, sym, subst}
use Rattle.dtvcc_screen.specs.Meaning.{Event, start}
use Rattle.line21_shown.specs.Listing.{IsFormed, Listing}
use Rattle.line21_shown.specs.Rules.{IsRuled}
use Rattle.line21_shown.specs.Lane.TheVariants.{Service}
use Rattle.windows_shown.specs.Filling.{AllFill}
use Rattle.frame_carrier.specs.Carrying.{column_packets}
use Rattle.frame_carrier.specs.Planned.{Placement, columns_of}
use Rattle.services_shown.specs.PlacedServices.{AreServicesPlaced}
use Rattle.windows_shown.specs.AuthoredShown.{list_lane}
use Rattle.services_shown.specs.Buffers.{BuffersNeverFill}
use Rattle.services_shown.proofs.LeadingLemmas.{lane_is_sound, told_fills, whole_told}

pub buffers_never_fill : (list : Listing) (placed : Placement) → IsFormed list → IsRuled list → AreServicesPlaced list placed
    → BuffersNeverFill (column_packets list.rate (columns_of list placed) 0 list.frames)
buffers_never_fill list placed formed ruled is service numbered =
    subst (λ (events : List Event). AllFill 127 start events)
    (sym (whole_told list placed service formed ruled is))
    (told_fills (list_lane list service (placed (Service service))) list.frames (lane_is_sound list placed service formed ruled is))
