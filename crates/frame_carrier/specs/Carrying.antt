-- Believed: the library's answers stand on these definitions.
-- How the frames of a programme are carried: the triplets of a frame in one cc_data section of a caption distribution packet
-- (SMPTE ST 334-2) that says that captions are carried and active, with the frame's number as its counter; and that in an
-- ancillary packet of captions (SMPTE ST 334-1).
use Rattle.std.specs.Prelude.{◌≡◌, ℕ, zero, suc, ◌+◌, ◌%◌, List, [], ◌∷◌, ◌++◌}
use Rattle.cc_base.specs.declared.rate.Rate.{Rate}
use Rattle.cc_data.specs.declared.triplet.Triplet.{Triplet}
use Rattle.cdp_packets.specs.Packets.{Frame}
use Rattle.channel_packets.specs.Writers.{HasWritten}
use Rattle.channel_packets.specs.Written.{packet_written}
use Rattle.words_files.specs.CarriedWords.{carried_words, triplets_packet}
use Rattle.frame_scheduler.specs.Columns.{Columns}
use Rattle.frame_scheduler.specs.declared.frames.FrameBytes.{FrameBytes}
use Rattle.frame_carrier.specs.FrameTriplets.{frame_triplets}
use Rattle.frame_carrier.specs.declared.carrier.Carrier.{Carrier}

-- the counter of a frame's packet has 16 bits
abbrev pub counter_of : ℕ → ℕ
counter_of frame = frame % 65536

-- the distribution packet of a frame with what it carries, and with the triplets of its channel packet
abbrev pub frame_packet : Rate → ℕ → FrameBytes → List Triplet → Frame
frame_packet rate frame bytes packet = triplets_packet rate frame (frame_triplets rate bytes packet)

-- the bytes of the ancillary packet of a frame
abbrev pub frame_bytes : Rate → ℕ → FrameBytes → List Triplet → List ℕ
frame_bytes rate frame bytes packet = carried_words (frame_packet rate frame bytes packet)

-- the triplets of a frame's caption channel packet, after this many packets; none where the frame has no service blocks
abbrev pub channel_packet : ℕ → List ℕ → List Triplet
channel_packet count [] = []
channel_packet count (byte ∷ blocks) = packet_written (count % 4) (byte ∷ blocks)

-- the number of packets of a frame
abbrev pub packet_count : List ℕ → ℕ
packet_count [] = 0
packet_count (byte ∷ blocks) = 1

-- and of the frames below one
abbrev pub packets_before : Columns → ℕ → ℕ
packets_before columns zero = 0
packets_before columns (suc n) = packets_before columns n + packet_count (columns n).blocks.items

-- the triplets of the channel packet of a frame of columns: packets are numbered in the order of their frames
abbrev pub channel_packet_of : Columns → ℕ → List Triplet
channel_packet_of columns frame = channel_packet (packets_before columns frame) (columns frame).blocks.items

-- the distribution packets of this many frames of columns, from a frame on
abbrev pub column_packets : Rate → Columns → ℕ → ℕ → List Frame
column_packets rate columns frame zero = []
column_packets rate columns frame (suc n) =
    frame_packet rate frame (columns frame) (channel_packet_of columns frame) ∷ column_packets rate columns (suc frame) n

-- the bytes of their ancillary packets
abbrev pub column_bytes : Rate → Columns → ℕ → ℕ → List ℕ
column_bytes rate columns frame zero = []
column_bytes rate columns frame (suc n) =
    frame_bytes rate frame (columns frame) (channel_packet_of columns frame) ++ column_bytes rate columns (suc frame) n

-- the carrier is for this rate, this frame is its next, and it has carried this many channel packets
pub record IsAt (rate : Rate) (frame count : ℕ) (carrier : Carrier) : Type 0 where
  pub rate_is : carrier.rate ≡ rate
  pub counter_is : carrier.counter ≡ counter_of frame
  pub writer_is : HasWritten count carrier.writer
