-- Between crates: the program's answer stands on none of these definitions.
-- What is seen of a service that is reset after lost frames, and hears all frames from there on (CTA-708-E, Reset and caption windows;
-- that a receiver resets where frames are missing, and from when on it shows the authored windows again, are this project's own choice).
use Rattle.std.specs.Prelude.{◌≡◌, ℕ, zero, suc, ◌+◌, ◌<◌, List, [], ◌++◌, IfSome}
use Rattle.std.specs.List.{AllByRecursion}
use Rattle.cue_types.specs.Channels.{cues_of_service}
use Rattle.cue_types.specs.Listing.{IsFormed, Listing}
use Rattle.cue_types.specs.declared.cue.Cue.{Cue}
use Rattle.cue_lists.specs.Rules.{IsRuled}
use Rattle.cue_lists.specs.AuthoredServiceGrid.{authored_windows}
use Rattle.dtvcc_screen.specs.Meaning.{Event, cleaned, served_after}
use Rattle.dtvcc_screen.specs.Shown.{grids}
use Rattle.dtvcc_screen.specs.declared.clock.Clock.{Clock}
use Rattle.windows_shown.specs.ServiceLanes.{Lane, lane_frame_events}
use Rattle.windows_shown.specs.AuthoredShown.{IsServicePlaced, list_lane}

-- what a service gets in this many frames of its lane from one on
abbrev pub lane_events_since : Lane → ℕ → ℕ → List Event
lane_events_since lane since zero = []
lane_events_since lane since (suc count) = lane_events_since lane since count ++ lane_frame_events lane (since + count)

-- a service is back at a frame after a lost one: each of its cues that isn't hidden by then has its LOAD after the lost frame, so all that is
-- sent of it comes
abbrev pub IsServiceBack : Listing → ℕ → ℕ → ℕ → Type 0
IsServiceBack list service frame lost =
    AllByRecursion (λ (cue : Cue). IfSome cue.hide (λ hide. frame < hide → lost < cue.load)) (cues_of_service service list.cues)

-- a service that was reset after a lost frame, and then was told all frames up to one, shows at that one what is authored where it is back:
-- wherever its units stand that its lane allows, whatever its clock had counted
abbrev pub ServiceLossIsRecovered : Type 0
ServiceLossIsRecovered = (list : Listing) (service : ℕ) (frames : List ℕ) → IsFormed list → IsRuled list → IsServicePlaced list service frames
    → (clock : Clock) (lost count frame id : ℕ) → suc lost + count ≡ frame → IsServiceBack list service frame lost → id < 8
    → grids (served_after (cleaned clock) (lane_events_since (list_lane list service frames) (suc lost) (suc count))).core.screen id
    ≡ authored_windows service list.cues frame id
