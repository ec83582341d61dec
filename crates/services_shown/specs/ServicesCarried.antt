-- Believed in part: the program's answer stands on some of these definitions.
-- What is carried of the services of a cue list.
use Rattle.std.specs.Prelude.{◌≡◌, ℕ, ◌≤◌, List, [], ◌∷◌, ◌++◌, All, length}
use Rattle.cc_base.specs.declared.rate.Rate.{Rate}
use Rattle.line21_shown.specs.Listing.{IsFormed, Listing}
use Rattle.line21_shown.specs.Rules.{IsRuled}
use Rattle.line21_shown.specs.Shares.{share_room}
use Rattle.service_blocks.specs.Written.{block_written}
use Rattle.cc_receiver.specs.CarriedChannel.{CarryChannel}
use Rattle.frame_carrier.specs.Columns.{Columns}
use Rattle.frame_carrier.specs.Planned.{Placement, columns_of}
use Rattle.services_shown.specs.PlacedServices.{AreServicesPlaced}
use Rattle.frame_carrier.specs.Carried.{AreByteBlocks, AreCarried, AreRoomy}
use Rattle.frame_carrier.specs.Carrying.{column_packets}

-- a frame's service blocks have at most this room
abbrev pub AreWithin : ℕ → Columns → Type 0
AreWithin room columns = (frame : ℕ) → length (columns frame).blocks.items ≤ room

-- blocks of bytes of services, one after another
pub record Sent : Type 0 where
  pub service : ℕ
  pub bytes : List ℕ

pub record IsSent (sent : Sent) : Type 0 where
  pub least : 1 ≤ sent.service
  pub most : sent.service ≤ 63
  pub some : 1 ≤ length sent.bytes
  pub few : length sent.bytes ≤ 31

abbrev pub sent_bytes : List Sent → List ℕ
sent_bytes [] = []
sent_bytes (sent ∷ more) = block_written sent.service sent.bytes ++ sent_bytes more

-- each frame's blocks are whole blocks, few enough for one packet
pub record HasBlocks (columns : Columns) (frame : ℕ) : Type 0 where
  pub sent : List Sent
  pub are : All IsSent sent
  pub blocks : (columns frame).blocks.items ≡ sent_bytes sent
  pub few : length (columns frame).blocks.items ≤ 35

-- the frames of a placed list keep to their room
pub record HaveRoom (list : Listing) (placed : Placement) : Type 0 where
  pub bytes : AreByteBlocks (columns_of list placed)
  pub within : AreWithin (share_room list.rate) (columns_of list placed)
  pub roomy : AreRoomy list.rate (columns_of list placed)
  pub blocks : (frame : ℕ) → HasBlocks (columns_of list placed) frame

abbrev pub FramesHaveRoom : Type 0
FramesHaveRoom = (list : Listing) (placed : Placement) → IsFormed list → IsRuled list → AreServicesPlaced list placed → HaveRoom list placed

-- such columns that are carried carry a caption channel
abbrev pub ProgrammesAreWhole : Type 0
ProgrammesAreWhole = (rate : Rate) (columns : Columns) (n : ℕ) → ((frame : ℕ) → HasBlocks columns frame) → AreCarried rate columns n
    → CarryChannel (column_packets rate columns 0 n)
