-- Believed in part: the library's answers stand on some of these definitions.
-- What the check of a channel knows before a frame.
use Rattle.std.specs.Prelude.{◌≡◌, ℕ, Bool, true, List}
use Rattle.line21_codes.specs.declared.channels.Chan.{Chan}
use Rattle.line21_screen.specs.Differences.{HasOther}
use Rattle.line21_screen.specs.Grid.{Grid}
use Rattle.line21_screen.specs.Objects.{grid_in}
use Rattle.cue_lists.specs.AuthoredGrid.{authored_grid}
use Rattle.cc_verifier.specs.ChannelCursors.{StandsAtFrame, cursor_channel}
use Rattle.cc_verifier.specs.ChannelTimes.{AreCuesTimed}
use Rattle.cue_types.specs.Channels.{cues_on}
use Rattle.cue_types.specs.declared.cue.Cue.{Cue}
use Rattle.cc_verifier.specs.declared.channel_check.ChannelCheck.{ChannelCheck}

-- it is the channel's, and stands at the frame; where it says that the channel agrees, the channel showed this grid at the
-- frame before, and that is what is authored at this frame
pub record Knows (channel : Chan) (cues : List Cue) (frame : ℕ) (former : Grid) (check : ChannelCheck) : Type 0 where
  pub channel_is : cursor_channel check.cursor ≡ channel
  pub stands : StandsAtFrame cues frame check.cursor
  pub showed : check.agrees ≡ true → grid_in check.seen ≡ former
  pub agreed : check.agrees ≡ true → HasOther (grid_in check.seen) (authored_grid channel cues frame) → ⊥

-- an idle frame leaves what a channel shows
abbrev pub LeavesGrid : Bool → Grid → Grid → Type 0
LeavesGrid is_idle former now = is_idle ≡ true → now ≡ former

-- it stands at a frame of cues that are timed
pub record IsReadyToCheck (cues : List Cue) (frame : ℕ) (check : ChannelCheck) : Type 0 where
  pub timed : AreCuesTimed 0 (cues_on (cursor_channel check.cursor) cues)
  pub stands : StandsAtFrame cues frame check.cursor
