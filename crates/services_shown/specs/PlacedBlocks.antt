-- Between crates: the program's answer stands on none of these definitions.
-- The service blocks of a cue list whose services are placed.
use Rattle.line21_shown.specs.Listing.{IsFormed, Listing}
use Rattle.line21_shown.specs.Rules.{IsRuled}
use Rattle.frame_carrier.specs.Carrying.{column_packets}
use Rattle.frame_carrier.specs.Planned.{Placement, columns_of, share_in}
use Rattle.services_shown.specs.PlacedServices.{AreServicesPlaced}
use Rattle.services_shown.specs.Shares.{AreSharesKept}
use Rattle.services_shown.specs.Sound.{HasFitBlocks}

-- they are fit, and each service gets at most the share that the list has of it
pub record HasPlacedBlocks (list : Listing) (placed : Placement) : Type 0 where
  pub fit : HasFitBlocks list.rate list.frames (columns_of list placed)
  pub shares : AreSharesKept list.rate (share_in list) list.frames (column_packets list.rate (columns_of list placed) 0 list.frames)

-- so it is for every list that keeps the rules
abbrev pub PlacedBlocksAreFit : Type 0
PlacedBlocksAreFit = (list : Listing) (placed : Placement) → IsFormed list → IsRuled list → AreServicesPlaced list placed → HasPlacedBlocks list placed
