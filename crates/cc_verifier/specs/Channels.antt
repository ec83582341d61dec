-- Believed in part: the library's answers stand on some of these definitions.
-- What the checks of the four channels of line 21 know, and what they find (CTA-608-E).
use Rattle.std.specs.Prelude.{◌≤◌, ℕ, Bool, List, Option, Some, None}
use Rattle.line21_codes.specs.declared.channels.Chan.{Chan}
use Rattle.line21_codes.specs.declared.channels.Chan.TheVariants as chan
use Rattle.line21_screen.specs.Grid.{Grid}
use Rattle.cc_verifier.specs.ChannelTimes.{AreCuesTimed}
use Rattle.cue_types.specs.Channels.{cues_on}
use Rattle.cue_types.specs.Lane.{channel_number}
use Rattle.cue_types.specs.declared.cue.Cue.{Cue}
use Rattle.cc_verifier.specs.Checks.{IsReadyToCheck, Knows, LeavesGrid}
use Rattle.cc_verifier.specs.Differing.{ShowsOther}
use Rattle.cc_verifier.specs.declared.channel_checks.ChannelChecks.{ChannelChecks}

-- the cues of each channel are timed
abbrev pub AreTimedAll : List Cue → Type 0
AreTimedAll cues = (channel : Chan) → AreCuesTimed 0 (cues_on channel cues)

-- the first channel that shows another grid than is authored, or that none does
pub record IsFirstChannel (cues : List Cue) (frame : ℕ) (screens : Chan → Grid) (channel : Chan) : Type 0 where
  pub shows : ShowsOther cues frame screens channel
  pub first : (other : Chan) → ShowsOther cues frame screens other → channel_number channel ≤ channel_number other

abbrev pub IsFirstOther : List Cue → ℕ → (Chan → Grid) → Option Chan → Type 0
IsFirstOther cues frame screens None = (channel : Chan) → ShowsOther cues frame screens channel → ⊥
IsFirstOther cues frame screens (Some channel) = IsFirstChannel cues frame screens channel

-- each channel's check is its own, and stands at a frame
pub record AreReady (cues : List Cue) (frame : ℕ) (checks : ChannelChecks) : Type 0 where
  pub cc1 : IsReadyToCheck cues frame checks.cc1
  pub cc2 : IsReadyToCheck cues frame checks.cc2
  pub cc3 : IsReadyToCheck cues frame checks.cc3
  pub cc4 : IsReadyToCheck cues frame checks.cc4

-- they know what was shown at the frame before
pub record KnowAll (cues : List Cue) (frame : ℕ) (former : Chan → Grid) (checks : ChannelChecks) : Type 0 where
  pub cc1 : Knows chan.Cc1 cues frame (former chan.Cc1) checks.cc1
  pub cc2 : Knows chan.Cc2 cues frame (former chan.Cc2) checks.cc2
  pub cc3 : Knows chan.Cc3 cues frame (former chan.Cc3) checks.cc3
  pub cc4 : Knows chan.Cc4 cues frame (former chan.Cc4) checks.cc4

-- an idle frame leaves what all channels show
abbrev pub LeaveGrids : Bool → (Chan → Grid) → (Chan → Grid) → Type 0
LeaveGrids is_idle former now = (channel : Chan) → LeavesGrid is_idle (former channel) (now channel)
