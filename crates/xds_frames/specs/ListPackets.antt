-- Between crates: the program's answer stands on none of these definitions.
-- The packets of a list beside the captions of a placed cue list.
use Rattle.std.specs.Prelude.{◌≡◌, ℕ, List, Option, Some, None}
use Rattle.cue_lists.specs.Listing.{Listing}
use Rattle.cue_lists.specs.declared.lane.Lane.TheVariants.{Channel}
use Rattle.line21_codes.specs.declared.channels.Chan.TheVariants.{Cc3}
use Rattle.cue_lists.specs.Cadences.{cadence_of, slot_frame}
use Rattle.lanes.specs.ChannelLane.{channel_slot}
use Rattle.frame_carrier.specs.Planned.{Placement, columns_of}
use Rattle.frame_carrier.specs.SlotLists.{slot_cues, slots_in_list}
use Rattle.xds_frames.specs.XdsFrames.{HasXdsRoom, IsFirstWithoutXdsRoom, xds_columns}
use Rattle.xds_frames.specs.Packets.{IsLaying, LaysPackets, Laying, free_at}
use Rattle.xds_frames.specs.declared.packets.Packets.{Packets}
use Rattle.xds_packets.specs.Places.{LacksRoom}
use Rattle.xds_packets.specs.Sending.{Listed}

-- the captions of CC3, and the packets
abbrev pub laying_of : Listing → Placement → List Listed → Laying
laying_of list placed listed = record {
  cues = list.cues;
  cadence = cadence_of list.rate Cc3;
  pairs = channel_slot Cc3 (slot_cues list Cc3) (placed (Channel Cc3));
  listed = listed;
}

-- over the frames of the placed list they make those with the packets
abbrev pub PacketsAreLaid : Type 0
PacketsAreLaid = (list : Listing) (placed : Placement) (listed : List Listed) (packets : Packets) → IsLaying (laying_of list placed listed) 0 packets
    → LaysPackets (columns_of list placed) (xds_columns list placed listed) 0 packets

-- the first packet without room in the frames of a list, or none
abbrev pub TellsXdsRoom : Listing → Placement → List Listed → Option ℕ → Type 0
TellsXdsRoom list placed listed None = HasXdsRoom list placed listed
TellsXdsRoom list placed listed (Some number) = IsFirstWithoutXdsRoom list placed listed number

abbrev pub RoomIsTold : Type 0
RoomIsTold = (list : Listing) (placed : Placement) (listed : List Listed) (number : Option ℕ)
    → LacksRoom (free_at (laying_of list placed listed)) (slot_frame (cadence_of list.rate Cc3)) listed (slots_in_list list Cc3) number → TellsXdsRoom list placed listed number

-- so there is such a number, or none, for every placed list and all packets
abbrev pub RoomIsJudged : Type 0
RoomIsJudged = (list : Listing) (placed : Placement) (listed : List Listed) → (number : Option ℕ) × TellsXdsRoom list placed listed number

-- where all packets have room none is the first without
abbrev pub RoomLacksNone : Type 0
RoomLacksNone = (list : Listing) (placed : Placement) (listed : List Listed) (number : ℕ) → HasXdsRoom list placed listed → IsFirstWithoutXdsRoom list placed listed number → ⊥

-- and one packet alone is
abbrev pub OnePacketLacksRoom : Type 0
OnePacketLacksRoom = (list : Listing) (placed : Placement) (listed : List Listed) (a b : ℕ) → IsFirstWithoutXdsRoom list placed listed a → IsFirstWithoutXdsRoom list placed listed b → a ≡ b
