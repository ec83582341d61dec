-- Between crates: the program's answer stands on none of these definitions.
-- The front of a lane of cues, with further cues: below the LOAD of each of these nothing changes.
use Rattle.std.specs.Prelude.{◌≡◌, ℕ, ◌<◌, ◌≤◌, List, ◌++◌, All, IfSome}
use Rattle.std.specs.List.{zip}
use Rattle.cc_base.specs.declared.rate.Rate.{Rate}
use Rattle.line21_codes.specs.declared.channels.Chan.{Chan}
use Rattle.cue_lists.specs.Channels.{cues_on}
use Rattle.cue_lists.specs.declared.cue.Cue.{Cue}
use Rattle.dtvcc_author.specs.Captions.{service_captions}
use Rattle.dtvcc_author.specs.Kept.{AreKept}
use Rattle.lanes.specs.ChannelLane.{IsChannelPlaced, channel_slot}
use Rattle.lanes.specs.Placing.{IsEarliest}
use Rattle.lanes.specs.ServiceBytes.{bytes_in}
use Rattle.lanes.specs.ServiceChunks.{service_chunks}
use Rattle.lanes.specs.ServiceRoom.{caption_lane}

-- each of the cues is loaded from here on
abbrev pub AreLoadedFrom : ℕ → List Cue → Type 0
AreLoadedFrom from cues = All (λ cue. from ≤ cue.load) cues

-- each of the cues that is hidden is so after it is shown
abbrev pub AreHiddenLater : List Cue → Type 0
AreHiddenLater cues = All (λ cue. IfSome cue.hide (λ hide. cue.show < hide)) cues

-- a channel of line 21: cues whose times are in slots. Each slot below the one has the same pair with the further cues
abbrev pub ChannelFrontIsKept : Type 0
ChannelFrontIsKept = (channel : Chan) (from : ℕ) (cues more : List Cue) (slots moved : List ℕ)
    → AreLoadedFrom from more → AreHiddenLater (cues_on channel more)
    → IsChannelPlaced channel cues slots → IsChannelPlaced channel (cues ++ more) moved
    → (slot : ℕ) → slot < from → channel_slot channel cues slots slot ≡ channel_slot channel (cues ++ more) moved slot

-- the units of a service's cues are placed, in a share of each frame
abbrev pub IsServicePlaced : Rate → ℕ → ℕ → List Cue → List ℕ → Type 0
IsServicePlaced rate service share cues frames =
    IsEarliest (caption_lane share (service_captions rate service cues)) (service_chunks rate service cues) frames

-- what the service is sent in a frame
abbrev pub service_sent : Rate → ℕ → List Cue → List ℕ → ℕ → List ℕ
service_sent rate service cues frames = bytes_in (service_captions rate service cues) (zip (service_chunks rate service cues) frames)

-- a service: each frame below the one has the same bytes with the further cues
abbrev pub ServiceFrontIsKept : Type 0
ServiceFrontIsKept = (rate : Rate) (service from count share : ℕ) (cues more : List Cue) (frames moved : List ℕ)
    → AreLoadedFrom from more → AreKept rate count (service_captions rate service (cues ++ more))
    → IsServicePlaced rate service share cues frames → IsServicePlaced rate service share (cues ++ more) moved
    → (frame : ℕ) → frame < from → service_sent rate service cues frames frame ≡ service_sent rate service (cues ++ more) moved frame
