-- What a receiver shows of the services of a placed list is what the list authors.
use Rattle.std.proofs.Common.{◌∙◌, ℕ, suc, ◌<◌, ap, arith}
use Rattle.line21_shown.specs.Listing.{IsFormed, Listing}
use Rattle.line21_shown.specs.Rules.{IsRuled}
use Rattle.line21_shown.specs.Lane.TheVariants.{Service}
use Rattle.dtvcc_screen.specs.Meaning.{Served, served_after, start}
use Rattle.dtvcc_screen.specs.Shown.{grids}
use Rattle.frame_carrier.specs.Carrying.{column_packets}
use Rattle.frame_carrier.specs.Planned.{Placement, columns_of, share_in}
use Rattle.services_shown.specs.PlacedServices.{AreServicesPlaced}
use Rattle.windows_shown.specs.AuthoredShown.{list_lane}
use Rattle.windows_shown.proofs.ShownLemmas.{windows_are_shown}
use Rattle.services_shown.specs.SeenWindows.{ShowAuthoredWindows}
use Rattle.services_shown.proofs.LeadingLemmas.{front_told, told_leads}

pub authored_windows_seen : (list : Listing) (placed : Placement) → IsFormed list → IsRuled list → AreServicesPlaced list placed → (frame : ℕ) → frame < list.frames
    → ShowAuthoredWindows list.cues (column_packets list.rate (columns_of list placed) 0 list.frames) frame
authored_windows_seen list placed formed ruled is frame below service id numbered low =
    let lane = list_lane list service (placed (Service service)) in
    ap (λ (s : Served). grids s.core.screen id)
    (ap (served_after start) (front_told list placed service (suc frame) formed ruled is (omega arith)) ∙ told_leads lane (suc frame))
    ∙ windows_are_shown list (share_in list service) service (placed (Service service)) formed ruled (is service).placed frame id low
