-- Between crates: the program's answer stands on none of these definitions.
-- A worked example: windows of a service of which frame 5 is lost, in the midst of one that is shown and of one that is loading.
use Rattle.std.specs.Prelude.{ℕ, suc, ◌-◌, Bool, List, [], ◌∷◌, is_some}
use Rattle.cc_base.specs.declared.rate.Rate.TheVariants.{F2997}
use Rattle.cue_types.specs.Listing.{Listing}
use Rattle.cue_lists.specs.Rules.Examples.{window, window_list}
use Rattle.dtvcc_screen.specs.Meaning.{cleaned, served_after}
use Rattle.dtvcc_screen.specs.Shown.{grids}
use Rattle.windows_shown.specs.AuthoredShown.{list_lane}
use Rattle.lost.specs.WindowLoss.{lane_events_since}

-- service 1 has a window 0 from frame 4 up to 12, a window 1 from 10 up to 20, whose DELAY of a tenth of a second is 3 frames, a
-- window 2 from 15 up to 20, which is loaded from 8 on, and again a window 0 from 25 up to 30, loaded from 21 on: in each the letter A
abbrev pub interrupted_list : Listing
interrupted_list = window_list (window 0 0 4 12 0 ∷ window 1 1 10 20 1 ∷ window 2 8 15 20 0 ∷ window 0 21 25 30 0 ∷ [])

-- the frames of the units: DefineWindow, the place, the pen and the letter of each
abbrev pub interrupted_frames : List ℕ
interrupted_frames = 0 ∷ 0 ∷ 1 ∷ 3 ∷ 3 ∷ 4 ∷ 4 ∷ 6 ∷ 8 ∷ 8 ∷ 9 ∷ 9 ∷ 21 ∷ 21 ∷ 22 ∷ 22 ∷ []

-- whether a window is seen when a frame has come, if the service was reset before frame 6
abbrev pub is_seen_since : ℕ → ℕ → Bool
is_seen_since id frame =
    is_some (grids (served_after (cleaned (record { ticks = 5; rate = F2997 })) (lane_events_since (list_lane interrupted_list 1 interrupted_frames) 6 (suc frame - 6))).core.screen id)
