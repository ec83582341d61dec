-- Between crates: the program's answer stands on none of these definitions.
-- Which cue lists have words that are converted from 29.97 to 59.94 without a misfit: the lists whose delays each last just twice
-- as many frames at twice the rate (CTA-708-E, Delay).
use Rattle.std.specs.Prelude.{◌≡◌, ◌≤◌, All}
use Rattle.cc_base.specs.declared.rate.Rate.TheVariants.{F2997}
use Rattle.cue_lists.specs.Listing.{IsFormed, Listing}
use Rattle.cue_lists.specs.Rules.{IsRuled}
use Rattle.cue_lists.specs.declared.cue.Cue.{Cue}
use Rattle.cue_lists.specs.declared.cue.Kind.TheVariants.{Win}
use Rattle.cue_lists.specs.declared.cue.WinCue.{WinCue}
use Rattle.services_shown.specs.Carrying.{column_packets}
use Rattle.frame_carrier.specs.Planned.{Placement, columns_of}
use Rattle.rate_convert.specs.Misfits.{AreFit}
use Rattle.services_shown.specs.PlacedServices.{AreServicesPlaced}
use Rattle.services_shown.specs.Sound.{IsSoundFrames}

-- a window cue has a delay of at most 166 tenths of a second; no other cue has one
abbrev pub HasShortDelay : Cue → Type 0
HasShortDelay cue = (w : WinCue) → cue.kind ≡ Win w → w.delay ≤ 166

-- a list at 29.97 whose delays are all so short
pub record HasShortDelays (list : Listing) : Type 0 where
  pub rate : list.rate ≡ F2997
  pub delays : All HasShortDelay list.cues

-- no frame of such a list that is in form, keeps the rules and is placed has a misfit
abbrev pub ListsAreFit : Type 0
ListsAreFit = (list : Listing) (placed : Placement) → IsFormed list → IsRuled list → AreServicesPlaced list placed → HasShortDelays list
    → IsSoundFrames list.rate list.frames (columns_of list placed) → AreFit (column_packets list.rate (columns_of list placed) 0 list.frames)
