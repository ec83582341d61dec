-- Between crates: the program's answer stands on none of these definitions.
-- What packets make of frames.
use Rattle.std.specs.Prelude.{◌≡◌, ℕ, ◌-◌, ◌^◌, ◌&&◌, Bool, not, List, option_map}
use Rattle.std.specs.Option.{option_map_or}
use Rattle.line21_codes.specs.declared.channels.FieldNumber.TheVariants.{Two}
use Rattle.line21_codes.specs.Writing.{pair_of_code}
use Rattle.cue_lists.specs.declared.cue.Cue.{Cue}
use Rattle.line21_codes.specs.NullPairs.{is_null}
use Rattle.line21_codes.specs.declared.channels.Chan.TheVariants.{Cc3}
use Rattle.line21_codes.specs.declared.pairs.Pair.{Pair}
use Rattle.cue_lists.specs.Cadences.{slot_frame, slot_from, slot_in}
use Rattle.cue_lists.specs.Cadence.{Cadence}
use Rattle.frame_carrier.specs.Columns.{Columns}
use Rattle.frame_carrier.specs.FrameBytes.{FrameBytes}
use Rattle.xds_frames.specs.FreeSlots.{is_loading}
use Rattle.xds_frames.specs.Loads.{StandsAt}
use Rattle.xds_frames.specs.declared.loads.Loads.{Loads}
use Rattle.xds_frames.specs.declared.packets.Packets.{Packets}
use Rattle.xds_lists.specs.Writer.{IsBehind}
use Rattle.xds_lists.specs.declared.writer.XdsWriter.{XdsWriter}
use Rattle.xds_packets.specs.Places.{given_at}
use Rattle.xds_packets.specs.Sending.{Listed}

-- the writer of the packets, the times in which the cues of CC3 are loaded, and the number of the next frame
abbrev pub writer_in : Packets → XdsWriter
writer_in packets = packets.writer

abbrev pub loads_in : Packets → Loads
loads_in packets = packets.loads

abbrev pub frame_next : Packets → ℕ
frame_next packets = packets.frame

-- frames are counted below 2^32
abbrev pub frames_last : Packets → ℕ
frames_last packets = 2 ^ 32 - 1 - frame_next packets

-- the pair of a frame's slot is null, and no cue of CC3 is loaded in the frame
abbrev pub is_free : List Cue → ℕ → Pair → Bool
is_free cues frame pair = not (is_loading Cc3 cues frame) && is_null pair

-- packets beside captions: the cues, in which frames the slots of field 2 lie, the captions' pairs there, and the packets
pub record Laying : Type 0 where
  pub cues : List Cue
  pub cadence : Cadence
  pub pairs : ℕ → Pair
  pub listed : List Listed

-- whether each slot is free, and its pair: the packets', or else the captions'
abbrev pub free_at : Laying → ℕ → Bool
free_at laying n = is_free laying.cues (slot_frame laying.cadence n) (laying.pairs n)

abbrev pub laid_pair : Laying → ℕ → Pair
laid_pair laying n = option_map_or (pair_of_code Two) (given_at (free_at laying) (slot_frame laying.cadence) laying.listed n) (laying.pairs n)

-- a frame with the pair of its slot, where it has one
abbrev pub laid_frame : Laying → ℕ → FrameBytes → FrameBytes
laid_frame laying frame bytes = record {
  one = bytes.one;
  two = option_map (laid_pair laying) (slot_in laying.cadence frame);
  blocks = bytes.blocks;
}

-- the packets stand before a frame
pub record IsLaying (laying : Laying) (frame : ℕ) (packets : Packets) : Type 0 where
  pub frame_is : frame_next packets ≡ frame
  pub loads_at : StandsAt laying.cues frame (loads_in packets)
  pub writer_at : IsBehind (free_at laying) (slot_frame laying.cadence) laying.listed (slot_from laying.cadence frame) (writer_in packets)

-- the captions have these pairs in each frame
abbrev pub HasPairs : Laying → Columns → Type 0
HasPairs laying columns = (frame : ℕ) → (columns frame).two ≡ option_map laying.pairs (slot_in laying.cadence frame)

-- they put the pairs of their packets into the free slots of the first columns, and this frame is next
pub record LaysPackets (firsts columns : Columns) (frame : ℕ) (packets : Packets) : Type 0 where
  pub laying : Laying
  pub pairs_are : HasPairs laying firsts
  pub columns_are : (n : ℕ) → columns n ≡ laid_frame laying n (firsts n)
  pub stands : IsLaying laying frame packets
