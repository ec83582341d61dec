-- Between crates: the program's answer stands on none of these definitions.
-- A worked example: windows of a service, of which one is shown after a delay, and one is loaded while that is on.
use Rattle.std.specs.Prelude.{ℕ, suc, Bool, List, [], ◌∷◌, Option, is_some}
use Rattle.std.specs.Option.{option_and_then}
use Rattle.cue_types.specs.Listing.{Listing}
use Rattle.frame_scheduler.specs.Rules.Examples.{window, window_list}
use Rattle.dtvcc_windows.specs.Showing.{ShownWindow}
use Rattle.dtvcc_windows.specs.declared.cells.DCell.{DCell}
use Rattle.dtvcc_screen.specs.Shown.{grids}
use Rattle.windows_shown.specs.ServiceLanes.{served}
use Rattle.windows_shown.specs.AuthoredShown.{list_lane}

-- service 1 has a window 0 from frame 4 up to 12, a window 1 from 10 up to 20, whose DELAY of a tenth of a second is 3 frames, a
-- window 2 from 15 up to 20, which is loaded from 8 on, and again a window 0 from 16 up to 22: in each the letter A
abbrev pub delayed_list : Listing
delayed_list = window_list (window 0 0 4 12 0 ∷ window 1 1 10 20 1 ∷ window 2 8 15 20 0 ∷ window 0 12 16 22 0 ∷ [])

-- the frames of the units: DefineWindow, the place, the pen and the letter of each
abbrev pub delayed_frames : List ℕ
delayed_frames = 0 ∷ 0 ∷ 1 ∷ 3 ∷ 3 ∷ 4 ∷ 4 ∷ 6 ∷ 8 ∷ 8 ∷ 9 ∷ 9 ∷ 12 ∷ 13 ∷ 14 ∷ 15 ∷ []

-- what is seen of a window when a frame has come
abbrev pub seen_in_example : ℕ → ℕ → Option ShownWindow
seen_in_example id frame = grids (served (list_lane delayed_list 1 delayed_frames) (suc frame)).core.screen id

-- whether something is
abbrev pub is_seen : ℕ → ℕ → Bool
is_seen id frame = is_some (seen_in_example id frame)

-- the cell that is seen at a row and a column of a window
abbrev pub cell_seen : ℕ → ℕ → ℕ → ℕ → Option DCell
cell_seen id frame row column = option_and_then (λ (w : ShownWindow). w.cells row column) (seen_in_example id frame)
