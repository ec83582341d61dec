-- Believed in part: the program's answer stands on some of these definitions.
-- What is carried of a programme's frames: their bytes are a words file of their packets, each frame has the triplets that
-- its rate asks, with the pair of each field in which it has a slot, and a receiver gets just these pairs.
use Rattle.std.specs.Prelude.{◌≡◌, ℕ, ◌<◌, ◌≤◌, List, length, take, All, IfSome, option_to_list}
use Rattle.cc_data.specs.declared.triplet.Triplet.{Triplet}
use Rattle.cc_base.specs.Rate.{triplets_in_frame}
use Rattle.cc_base.specs.declared.rate.Rate.{Rate}
use Rattle.line21_codes.specs.declared.channels.FieldNumber.{FieldNumber}
use Rattle.line21_codes.specs.declared.pairs.Pair.{Pair}
use Rattle.cdp_packets.specs.Packets.{Frame}
use Rattle.channel_packets.specs.ChannelPackets.{channel_triplets}
use Rattle.cdp_packets.specs.PacketTriplets.{packet_triplets}
use Rattle.words_files.specs.Frames.{IsFileOf}
use Rattle.words_files.specs.Received.{field_pairs, received_pairs}
use Rattle.frame_scheduler.specs.Columns.{Columns, first_pairs, pair_in}
use Rattle.frame_scheduler.specs.declared.frames.FrameBytes.{FrameBytes}
use Rattle.frame_carrier.specs.Carrying.{channel_packet_of, column_bytes, column_packets, frame_packet}
use Rattle.frame_carrier.specs.FrameTriplets.{front_triplets}

-- both of the pair are bytes
pub record IsBytePair (pair : Pair) : Type 0 where
  pub a : pair.a < 256
  pub b : pair.b < 256

-- so are the pairs of columns
abbrev pub AreBytePairs : Columns → Type 0
AreBytePairs columns = (in_field : FieldNumber) (frame : ℕ) → IfSome (pair_in in_field (columns frame)) IsBytePair

-- the pairs of a frame and its channel packet have as many triplets as the rate asks, at most
abbrev pub AreRoomy : Rate → Columns → Type 0
AreRoomy rate columns = (frame : ℕ) → length (front_triplets (columns frame) (channel_packet_of columns frame)) ≤ triplets_in_frame rate

-- the service blocks of columns are bytes
abbrev pub AreByteBlocks : Columns → Type 0
AreByteBlocks columns = (frame : ℕ) → All (λ byte. byte < 256) (columns frame).blocks.items

-- a frame's packet has as many triplets as the rate asks; of those that count each field's have the pair that the frame has in
-- the field, and the others are the frame's channel packet's
pub record IsCarriedInRoom (rate : Rate) (bytes : FrameBytes) (packet : List Triplet) (frame : Frame) : Type 0 where
  pub number : length (packet_triplets frame) ≡ triplets_in_frame rate
  pub pairs : (in_field : FieldNumber) → field_pairs in_field (packet_triplets frame) ≡ option_to_list (pair_in in_field bytes)
  pub service : channel_triplets (packet_triplets frame) ≡ packet

-- this many frames of columns are carried
pub record AreCarried (rate : Rate) (columns : Columns) (n : ℕ) : Type 0 where
  pub file : IsFileOf (column_packets rate columns 0 n) (column_bytes rate columns 0 n)
  pub room : (frame : ℕ) → IsCarriedInRoom rate (columns frame) (channel_packet_of columns frame) (frame_packet rate frame (columns frame) (channel_packet_of columns frame))
  pub received : (in_field : FieldNumber) (k : ℕ) → k ≤ n
      → received_pairs in_field (take k (column_packets rate columns 0 n)) ≡ first_pairs in_field columns k

-- the frames of a programme are carried, at any rate
abbrev pub FramesAreCarried : Type 0
FramesAreCarried = (rate : Rate) (columns : Columns) (n : ℕ) → AreBytePairs columns → AreByteBlocks columns → AreRoomy rate columns
    → AreCarried rate columns n
