-- Believed in part: the program's answer stands on some of these definitions.
-- The frames of a cue list with packets of extended data in the slots of field 2 that its captions leave free.
use Rattle.std.specs.Prelude.{◌≡◌, ℕ, ◌-◌, All, List, option_map, take}
use Rattle.std.specs.Option.{option_map_or}
use Rattle.cue_lists.specs.Listing.{IsFormed, Listing}
use Rattle.cue_lists.specs.Rules.{IsRuled}
use Rattle.cue_lists.specs.declared.lane.Lane.TheVariants.{Channel}
use Rattle.line21_codes.specs.Writing.{pair_of_code}
use Rattle.line21_codes.specs.declared.channels.Chan.{Chan}
use Rattle.line21_codes.specs.declared.channels.Chan.TheVariants.{Cc3}
use Rattle.line21_codes.specs.declared.channels.FieldNumber.TheVariants.{Two}
use Rattle.line21_codes.specs.declared.pairs.Pair.{Pair}
use Rattle.cue_lists.specs.Cadences.{cadence_of, slot_in}
use Rattle.lanes.specs.ChannelLane.{channel_slot}
use Rattle.frame_carrier.specs.Columns.{Columns, first_pairs}
use Rattle.frame_carrier.specs.Planned.{IsListPlaced, Placement, columns_of}
use Rattle.frame_carrier.specs.SlotLists.{slot_cues, slots_in_list}
use Rattle.services_shown.specs.Showing.{column_grids}
use Rattle.services_shown.specs.OtherPairs.{AreFitAlike}
use Rattle.services_shown.specs.Sound.{HasFitPairs, IsSoundFrames}
use Rattle.xds_frames.specs.FreeSlots.{frame_of_slot, free_in}
use Rattle.xds_packets.specs.PacketCodes.{IsXdsPacket}
use Rattle.xds_packets.specs.Places.{AllStand, given_at}
use Rattle.xds_packets.specs.Reading.{packets_within}
use Rattle.xds_packets.specs.Sending.{Listed, packets_left}

-- the pair of a slot of field 2: the packets', or else the captions'
abbrev pub xds_pair : Listing → List ℕ → List Listed → ℕ → Pair
xds_pair list slots listed n =
    option_map_or (pair_of_code Two) (given_at (free_in list slots) (frame_of_slot list) listed n) (channel_slot Cc3 (slot_cues list Cc3) slots n)

-- what each frame carries
abbrev pub xds_columns : Listing → Placement → List Listed → Columns
xds_columns list placed listed frame = record {
  one = (columns_of list placed frame).one;
  two = option_map (xds_pair list (placed (Channel Cc3)) listed) (slot_in (cadence_of list.rate Cc3) frame);
  blocks = (columns_of list placed frame).blocks;
}

-- all packets stand in the free slots of the list's frames
abbrev pub HasXdsRoom : Listing → Placement → List Listed → Type 0
HasXdsRoom list placed listed = AllStand (free_in list (placed (Channel Cc3))) (frame_of_slot list) listed (slots_in_list list Cc3)

-- the packet of this number, from 1, is the first whose end pair finds no free slot in the list's frames
pub record IsFirstWithoutXdsRoom (list : Listing) (placed : Placement) (listed : List Listed) (number : ℕ) : Type 0 where
  pub before : HasXdsRoom list placed (take (number - 1) listed)
  pub lacks : HasXdsRoom list placed (take number listed) → ⊥

-- a placed list that keeps the rules, and packets that can be sent
pub record AreSendable (list : Listing) (placed : Placement) (listed : List Listed) : Type 0 where
  pub formed : IsFormed list
  pub ruled : IsRuled list
  pub placed_is : IsListPlaced list placed
  pub packets : All (λ (l : Listed). IsXdsPacket l.packet) listed

-- the frames show on each channel what they show without the packets
abbrev pub ShowTheSame : Listing → Placement → List Listed → Type 0
ShowTheSame list placed listed = (frame : ℕ) (chan : Chan) → column_grids (xds_columns list placed listed) chan frame ≡ column_grids (columns_of list placed) chan frame

-- the frames have fit pairs, and show the same as without the packets
pub record AreFitBeside (list : Listing) (placed : Placement) (listed : List Listed) : Type 0 where
  pub pairs : HasFitPairs list.frames (xds_columns list placed listed)
  pub shown : ShowTheSame list placed listed

abbrev pub PacketsChangeNothing : Type 0
PacketsChangeNothing = (list : Listing) (placed : Placement) (listed : List Listed) → AreSendable list placed listed → AreFitBeside list placed listed

-- the frames are sound, and tell each service what they tell it without the packets
pub record IsSoundBeside (list : Listing) (placed : Placement) (listed : List Listed) : Type 0 where
  pub sound : IsSoundFrames list.rate list.frames (xds_columns list placed listed)
  pub alike : AreFitAlike list.rate list.frames (columns_of list placed) (xds_columns list placed listed)

abbrev pub PacketsLeaveFramesSound : Type 0
PacketsLeaveFramesSound = (list : Listing) (placed : Placement) (listed : List Listed) → AreSendable list placed listed → IsSoundBeside list placed listed

-- where all packets have room, the pairs of field 2 are read as just these packets, in their order
abbrev pub PacketsAreRead : Type 0
PacketsAreRead = (list : Listing) (placed : Placement) (listed : List Listed) → AreSendable list placed listed → HasXdsRoom list placed listed
    → packets_within (first_pairs Two (xds_columns list placed listed) list.frames) ≡ packets_left listed
