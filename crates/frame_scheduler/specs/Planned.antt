-- Believed: the program's answer stands on these definitions.
-- A cue list that is placed: the units of each lane in their earliest placement, and the frames that this gives.
use Rattle.std.specs.Prelude.{ℕ, ◌<◌, List, [], ◌∷◌, Option, unwrap_or}
use Rattle.std.specs.List.{flat_map, zip}
use Rattle.std.specs.Option.{option_map}
use Rattle.line21_codes.specs.declared.channels.FieldNumber.{FieldNumber}
use Rattle.line21_codes.specs.declared.channels.FieldNumber.TheVariants.{One, Two}
use Rattle.line21_codes.specs.declared.channels.Chan.{Chan}
use Rattle.line21_codes.specs.declared.channels.Chan.TheVariants.{Cc1, Cc3}
use Rattle.line21_codes.specs.declared.pairs.Pair.{Pair}
use Rattle.cue_lists.specs.Listing.{Listing, share_of}
use Rattle.cue_lists.specs.declared.lane.Lane.{Lane}
use Rattle.cue_lists.specs.declared.lane.Lane.TheVariants.{Channel, Service}
use Rattle.cue_lists.specs.Cadences.{cadence_of, slot_in}
use Rattle.lanes.specs.CueEvents.{channel_events}
use Rattle.dtvcc_author.specs.Captions.{service_captions}
use Rattle.dtvcc_author.specs.declared.caption.Caption.{Caption}
use Rattle.lanes.specs.ChannelLane.{channel_chunks, channel_slot}
use Rattle.frame_scheduler.specs.Columns.{Columns}
use Rattle.lanes.specs.FieldLane.{field_lane}
use Rattle.lanes.specs.LaneRoom as room
use Rattle.lanes.specs.Placing.{IsEarliest}
use Rattle.lanes.specs.ServiceBytes.{bytes_in}
use Rattle.lanes.specs.ServiceChunks.{service_chunks}
use Rattle.lanes.specs.ServiceRoom.{caption_lane}
use Rattle.lanes.specs.Chunks.{ServiceChunk}
use Rattle.frame_scheduler.specs.Blocks.{service_block}
use Rattle.frame_scheduler.specs.SlotLists.{slot_cues}

-- the slots in which the units of each channel begin, and the frames in which each service's stand
abbrev pub Placement : Type 0
Placement = Lane → List ℕ

-- the bytes of each frame that a service may use; none where the list has no share of it
abbrev pub share_in : Listing → ℕ → ℕ
share_in list service = unwrap_or (share_of list service) 0

-- the captions of a service, and its units
abbrev pub captions_in : Listing → ℕ → List Caption
captions_in list service = service_captions list.rate service list.cues

abbrev pub chunks_in : Listing → ℕ → List ServiceChunk
chunks_in list service = service_chunks list.rate service list.cues

-- what the lane of a service allows
abbrev pub service_lane_of : Listing → ℕ → List (ServiceChunk × ℕ) → ServiceChunk → ℕ → Type 0
service_lane_of list service = caption_lane (share_in list service) (captions_in list service)

-- the units of a lane begin in these slots or stand in these frames, in their earliest placement
abbrev pub IsLanePlaced : Listing → Lane → List ℕ → Type 0
IsLanePlaced list (Channel channel) slots =
    IsEarliest (field_lane (channel_events channel (slot_cues list channel)))
    (channel_chunks channel (slot_cues list channel)) slots
IsLanePlaced list (Service service) frames = IsEarliest (service_lane_of list service) (chunks_in list service) frames

-- so do the units of each lane of a list
abbrev pub IsListPlaced : Listing → Placement → Type 0
IsListPlaced list placed = (on : Lane) → IsLanePlaced list on (placed on)

-- the units of a lane up to the cue of this number have a placement
abbrev pub LaneHasRoom : Listing → Lane → ℕ → Type 0
LaneHasRoom list (Channel channel) cue =
    room.HasRoom (field_lane (channel_events channel (slot_cues list channel))) (λ chunk. chunk.cue)
    (channel_chunks channel (slot_cues list channel)) cue
LaneHasRoom list (Service service) cue =
    room.HasRoom (service_lane_of list service) (λ chunk. chunk.cue) (chunks_in list service) cue

-- the cue of this number is the first without a placement: its lane's units up to it have none, and up to each earlier cue
-- every lane's have one
pub record IsFirstWithoutRoom (list : Listing) (cue : ℕ) : Type 0 where
  pub none : (on : Lane) × (LaneHasRoom list on cue → ⊥)
  pub first : (earlier : ℕ) → earlier < cue → (on : Lane) → LaneHasRoom list on earlier

-- the channel of a field that is authored: CC1 in field 1, CC3 in field 2
abbrev pub authored_channel : FieldNumber → Chan
authored_channel One = Cc1
authored_channel Two = Cc3

-- the pair of a channel in a frame, where the frame has a slot of the channel's field and the units begin in these slots
abbrev pub channel_pair : Listing → Chan → List ℕ → ℕ → Option Pair
channel_pair list channel slots frame =
    option_map (channel_slot channel (slot_cues list channel) slots) (slot_in (cadence_of list.rate channel) frame)

-- the bytes that a service is sent in a frame, where its units stand in these frames
abbrev pub service_bytes : Listing → ℕ → List ℕ → ℕ → List ℕ
service_bytes list service frames frame = bytes_in (captions_in list service) (zip (chunks_in list service) frames) frame

-- the services that a list may have shares of
abbrev pub services : List ℕ
services = 1 ∷ 2 ∷ 3 ∷ 4 ∷ 5 ∷ 6 ∷ []

-- the service blocks of a frame, in ascending order of service: one for each service that is sent something
abbrev pub frame_blocks : Listing → Placement → ℕ → List ℕ
frame_blocks list placed frame =
    flat_map (λ service. service_block service (service_bytes list service (placed (Service service)) frame)) services

-- what each frame of a placed list carries: the pair of each field in which it has a slot, and its service blocks
abbrev pub columns_of : Listing → Placement → Columns
columns_of list placed frame = record {
  one = channel_pair list Cc1 (placed (Channel Cc1)) frame;
  two = channel_pair list Cc3 (placed (Channel Cc3)) frame;
  blocks = record { items = frame_blocks list placed frame };
}
