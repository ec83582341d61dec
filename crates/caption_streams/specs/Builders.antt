-- Believed in part: the library's answers stand on some of these definitions.
-- Builders: an accepted list on its way to ancillary packets, frame by frame.
use Rattle.std.specs.Prelude.{◌≡◌, ◌+◌, ◌<◌, ◌++◌, ℕ, List, length, drop, Option, Some, None, IsSome}
use Rattle.cc_data.specs.Triplets.{all_written}
use Rattle.cue_lists.specs.Listing.{Listing}
use Rattle.cue_list_commands.specs.Accepted.{IsAccepted}
use Rattle.cue_list_commands.specs.Carrying.{IsAt, channel_packet_of, frame_bytes, packets_before}
use Rattle.cue_list_commands.specs.FrameTriplets.{frame_triplets}
use Rattle.cue_list_commands.specs.Carrier.{Carrier}
use Rattle.cue_list_commands.specs.Columns.{Columns}
use Rattle.cue_list_commands.specs.Frames.{GivesFrom, frames_left}
use Rattle.cue_list_commands.specs.Planned.{Placement, columns_of}
use Rattle.cue_list_commands.specs.FrameBytes.{FrameBytes}
use Rattle.cue_list_commands.specs.Plan.{Plan}
use Rattle.caption_streams.specs.declared.building.Building.{Building}
use Rattle.caption_streams.specs.declared.building.FrameForm.{FrameForm}
use Rattle.caption_streams.specs.declared.building.FrameForm.TheVariants as form
use Rattle.caption_streams.specs.declared.building.NextFrame.{NextFrame}
use Rattle.caption_streams.specs.declared.building.NextFrame.TheVariants as asked

-- how many frames it gives from now on: the next one, if there is one, and the plan's
abbrev pub count_of : Option FrameBytes → ℕ
count_of None = 0
count_of (Some bytes) = 1

abbrev pub frames_to_come : Building → ℕ
frames_to_come building = count_of building.ahead + frames_left building.plan

-- this is the next frame of columns, and the plan gives those after it; or there is none
abbrev pub IsAhead : Columns → ℕ → Plan → Option FrameBytes → Type 0
IsAhead columns frame plan (Some bytes) = (bytes ≡ columns frame) × GivesFrom columns (frame + 1) plan
IsAhead columns frame plan None = frames_left plan ≡ 0

-- a builder of the list with this placement, whose next frame is this one
pub record IsBuilding (list : Listing) (placed : Placement) (frame : ℕ) (building : Building) : Type 0 where
  pub gives : IsAhead (columns_of list placed) frame building.plan building.ahead
  pub left : frame + frames_to_come building ≡ list.frames
  pub at : IsAt list.rate frame (packets_before (columns_of list placed) frame) building.carrier

-- the ancillary packet of a frame
abbrev pub packet_of : Listing → Placement → ℕ → List ℕ
packet_of list placed frame =
    frame_bytes list.rate frame (columns_of list placed frame) (channel_packet_of (columns_of list placed) frame)

-- its triplets, three bytes each
abbrev pub cc_data_of : Listing → Placement → ℕ → List ℕ
cc_data_of list placed frame =
    all_written (frame_triplets list.rate (columns_of list placed frame) (channel_packet_of (columns_of list placed) frame))

-- the one or the other
abbrev pub frame_in : FrameForm → Listing → Placement → ℕ → List ℕ
frame_in form.Words list placed frame = packet_of list placed frame
frame_in form.CcData list placed frame = cc_data_of list placed frame

-- a builder at frame 0 of the list that these bytes are accepted as
pub record Begins (bytes : List ℕ) (building : Building) : Type 0 where
  pub list : Listing
  pub placed : Placement
  pub accepted : IsAccepted bytes list placed
  pub is : IsBuilding list placed 0 building

-- this frame is the next one, these bytes are what it has, and after it the carrier is this one; or there is none
pub record HasCarried (list : Listing) (placed : Placement) (frame : ℕ) (packet : List ℕ) (building : Building) (bytes : List ℕ) (carrier : Carrier) : Type 0 where
  pub some : IsSome building.ahead
  pub bytes_are : bytes ≡ packet
  pub at : IsAt list.rate (frame + 1) (packets_before (columns_of list placed) (frame + 1)) carrier

abbrev pub IsCarriedNext : Listing → Placement → ℕ → List ℕ → Building → List ℕ → Option Carrier → Type 0
IsCarriedNext list placed frame packet building bytes (Some carrier) = HasCarried list placed frame packet building bytes carrier
IsCarriedNext list placed frame packet building bytes None = frame ≡ list.frames

-- what the next frame has stands at the front of the output, whose other bytes are as they were, and the builder is after the frame
pub record HasGiven (list : Listing) (placed : Placement) (frame : ℕ) (packet before after : List ℕ) (count : ℕ) (new : Building) : Type 0 where
  pub more : frame < list.frames
  pub count_is : count ≡ length packet
  pub stands : after ≡ packet ++ drop count before
  pub next : IsBuilding list placed (frame + 1) new

-- it has more bytes than there is room for, and all is as it was
pub record LacksRoom (packet before after : List ℕ) (count : ℕ) (old new : Building) : Type 0 where
  pub count_is : count ≡ length packet
  pub few : length before < length packet
  pub untouched : after ≡ before
  pub same : new ≡ old

-- there is no further frame, and all is as it was
pub record IsOver (before after : List ℕ) (old new : Building) (answer : NextFrame) : Type 0 where
  pub over : answer ≡ asked.Over
  pub untouched : after ≡ before
  pub same : new ≡ old

-- what is answered where this frame is the next one, and has this
abbrev pub GivesNext : Listing → Placement → ℕ → List ℕ → List ℕ → List ℕ → Building → Building → NextFrame → Type 0
GivesNext list placed frame packet before after old new (asked.Given count) = HasGiven list placed frame packet before after count new
GivesNext list placed frame packet before after old new (asked.NoRoom count) = (frame < list.frames) × LacksRoom packet before after count old new
GivesNext list placed frame packet before after old new asked.Over = (frame ≡ list.frames) × IsOver before after old new asked.Over
