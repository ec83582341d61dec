-- Between crates: the program's answer stands on none of these definitions.
-- The parts of channel packets, in order (CTA-708-E, section 5): the header of each packet, and its bytes.
use Rattle.std.specs.Prelude.{ℕ, ◌-◌, List, [], ◌∷◌, ◌++◌, Option, Some}
use Rattle.channel_packets.specs.declared.parts.PacketPart.{PacketPart}
use Rattle.channel_packets.specs.declared.parts.PacketPart.TheVariants as part
use Rattle.channel_packets.specs.ChannelPackets.{ChannelPacket, is_gap, number_of, size_of}

-- bytes of a packet that is to have `size` bytes from the first of these on: each with the number of those after it
abbrev pub byte_parts : ℕ → List ℕ → List PacketPart
byte_parts size [] = []
byte_parts size (byte ∷ bytes) = part.Byte byte (size - 1) ∷ byte_parts (size - 1) bytes

-- a packet, after one of the last number
abbrev pub parts_behind : Option ℕ → ChannelPacket → List PacketPart
parts_behind last packet =
    part.Header (is_gap last (number_of packet.header)) (size_of packet.header) ∷ byte_parts (size_of packet.header) packet.bytes

-- packets, after one of the last number
abbrev pub packet_parts : Option ℕ → List ChannelPacket → List PacketPart
packet_parts last [] = []
packet_parts last (packet ∷ packets) = parts_behind last packet ++ packet_parts (Some (number_of packet.header)) packets
