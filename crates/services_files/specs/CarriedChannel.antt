-- Believed: the program's answer stands on these definitions.
-- Frames whose triplets, one frame after another, are a caption channel (SMPTE ST 334-2; CTA-708-E, sections 5 and 6).
use Rattle.std.specs.Prelude.{List}
use Rattle.std.specs.List.{flat_map}
use Rattle.cc_data.specs.declared.triplet.Triplet.{Triplet}
use Rattle.cdp_packets.specs.Packets.{Frame}
use Rattle.cdp_packets.specs.PacketTriplets.{packet_triplets}
use Rattle.channel_packets.specs.ChannelPackets.{ChannelPacket}
use Rattle.service_blocks.specs.Channels.{AreChannel}
use Rattle.service_blocks.specs.ServiceBlocks.{Block}

-- the triplets of frames, in order
abbrev pub file_triplets : List Frame → List Triplet
file_triplets frames = flat_map packet_triplets frames

-- the frames carry a caption channel: their triplets that count and are of kind 2 or 3 are channel packets, and the bytes
-- of each of these are service blocks
pub record CarryChannel (frames : List Frame) : Type 0 where
  pub packets : List ChannelPacket
  pub blocks : List (List Block)
  pub channel : AreChannel packets blocks (file_triplets frames)
