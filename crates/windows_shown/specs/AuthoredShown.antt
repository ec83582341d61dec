-- Between crates: the program's answer stands on none of these definitions.
-- That what a viewer sees of a service is what the cue list authors (CTA-708-E, caption windows).
use Rattle.std.specs.Prelude.{◌≡◌, ℕ, suc, ◌<◌, List, []}
use Rattle.std.specs.List.{zip}
use Rattle.cue_types.specs.Listing.{Listing}
use Rattle.frame_scheduler.specs.AuthoredServiceGrid.{authored_windows}
use Rattle.dtvcc_screen.specs.Shown.{grids}
use Rattle.frame_scheduler.specs.Placing.{IsPlaced}
use Rattle.frame_scheduler.specs.Planned.{captions_in, chunks_in, service_lane_of}
use Rattle.windows_shown.specs.CaptionLanes.{lane_of}
use Rattle.windows_shown.specs.ServiceLanes.{Lane, served}

-- the units of a service stand in these frames, each where the service's lane allows it
abbrev pub IsServicePlaced : Listing → ℕ → List ℕ → Type 0
IsServicePlaced list service frames = IsPlaced (service_lane_of list service) [] (chunks_in list service) frames

-- what the service is then sent, frame by frame
abbrev pub list_lane : Listing → ℕ → List ℕ → Lane
list_lane list service frames = lane_of list.rate (captions_in list service) (zip (chunks_in list service) frames)

-- when a frame has come, each window is seen as the list authors it at the frame: a window of a cue that is shown there, and no
-- other
abbrev pub ShowsAuthored : Listing → ℕ → List ℕ → Type 0
ShowsAuthored list service frames = (frame id : ℕ) → id < 8
    → grids (served (list_lane list service frames) (suc frame)).core.screen id ≡ authored_windows service list.cues frame id
