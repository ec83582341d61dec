-- Believed in part: the program's answer stands on some of these definitions.
-- What the commands that read a cue list put of an accepted one, and what holds of it.
use Rattle.std.specs.Prelude.{⊤, ℕ, List}
use Rattle.cue_lists.specs.AuthoredServiceGrid.{authored_windows}
use Rattle.line21_codes.specs.declared.channels.Chan.TheVariants.{Cc1, Cc2, Cc3, Cc4}
use Rattle.cdp_packets.specs.Packets.{Frame}
use Rattle.cue_lists.specs.AuthoredGrid.{IsSettled, authored_grid, blank}
use Rattle.cue_lists.specs.Listing.{Listing}
use Rattle.frame_carrier.specs.Planned.{Placement, columns_of, share_in}
use Rattle.frame_carrier.specs.Framing.{Framing, packets_of, words_of}
use Rattle.services_shown.specs.Delays.{AreDelaysSent}
use Rattle.services_shown.specs.Shares.{AreSharesKept}
use Rattle.services_shown.specs.Showing.{ColumnsShow, Grids, ShowsFrames, Telling, WindowsShown}
use Rattle.services_shown.specs.Sound.{AreDoubledIn, IsSoundFrames}
use Rattle.cue_list_commands.specs.Accepted.{IsAccepted}
use Rattle.cue_list_commands.specs.Lines.{pair_lines}

-- a list that is placed
pub record PlacedList : Type 0 where
  pub list : Listing
  pub placed : Placement

-- the bytes are accepted as it
abbrev pub IsPlacedAs : List ℕ → PlacedList → Type 0
IsPlacedAs bytes made = IsAccepted bytes made.list made.placed

-- the frames of a list in a placement
abbrev pub list_framing : Listing → Placement → Framing
list_framing list placed = record { rate = list.rate; columns = columns_of list placed; count = list.frames }

abbrev pub framing_of : PlacedList → Framing
framing_of made = list_framing made.list made.placed

-- `pairs` puts a line for each frame
abbrev pub lines_of : Framing → List ℕ
lines_of framing = pair_lines framing.columns 0 framing.count

abbrev pub pairs_output : Listing → Placement → List ℕ
pairs_output list placed = lines_of (list_framing list placed)

-- `build` puts an ancillary packet for each frame
abbrev pub build_output : Listing → Placement → List ℕ
build_output list placed = words_of (list_framing list placed)

-- the distribution packets that these carry
abbrev pub built_packets : Listing → Placement → List Frame
built_packets list placed = packets_of (list_framing list placed)

-- what a list shows: the authored grids of CC1 and CC3 at each settled frame, blank grids of CC2 and CC4, and the authored windows
abbrev pub list_told : Listing → Telling
list_told list Cc1 frame = IsSettled Cc1 list.cues frame
list_told list Cc2 frame = ⊤
list_told list Cc3 frame = IsSettled Cc3 list.cues frame
list_told list Cc4 frame = ⊤

abbrev pub list_grids : Listing → Grids
list_grids list Cc1 frame = authored_grid Cc1 list.cues frame
list_grids list Cc2 frame = blank
list_grids list Cc3 frame = authored_grid Cc3 list.cues frame
list_grids list Cc4 frame = blank

abbrev pub list_windows : Listing → WindowsShown
list_windows list service frame id = authored_windows service list.cues frame id

-- what holds of the pairs that `pairs` puts: control pairs are doubled, and a receiver that was reset before the first one shows the list
pub record IsSoundPairs (made : PlacedList) : Type 0 where
  pub doubled : AreDoubledIn made.list.frames (columns_of made.list made.placed)
  pub shown : ColumnsShow (list_told made.list) (list_grids made.list) made.list.frames (columns_of made.list made.placed)

-- what holds of the words that `build` puts: their frames are sound, no service gets more than its share, a receiver that was
-- reset before the first frame shows the list, and the delay of each window cue is sent
pub record IsSoundWords (made : PlacedList) : Type 0 where
  pub frames : IsSoundFrames made.list.rate made.list.frames (columns_of made.list made.placed)
  pub shares : AreSharesKept made.list.rate (share_in made.list) made.list.frames (built_packets made.list made.placed)
  pub shows : ShowsFrames (list_told made.list) (list_grids made.list) (list_windows made.list) made.list.frames (built_packets made.list made.placed)
  pub delayed : AreDelaysSent made.list made.placed
