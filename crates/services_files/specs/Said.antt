-- Believed: the program's answer stands on these definitions.
-- What triplets of cc_data say to the services of DTVCC (CTA-708-E, sections 5 and 6): they are cut into channel packets, the bytes of
-- each packet into service blocks, and the blocks say bytes of services. Any triplets say something, also where a header passes its packet.
use Rattle.std.specs.Prelude.{ℕ, zero, suc, ◌==◌, if◌then◌else◌, List, [], ◌∷◌, ◌++◌, drop, length, map, take, take_while, None}
use Rattle.cc_data.specs.declared.triplet.Triplet.{Triplet}
use Rattle.channel_packets.specs.ChannelPackets.{ChannelPacket, channel_triplets, continues_packet, starts, stretch_packet}
use Rattle.service_blocks.specs.declared.parts.BlockPart.{BlockPart}
use Rattle.service_blocks.specs.Channels.{said}
use Rattle.service_blocks.specs.ServiceBlocks.{Block, rest_of}

-- the packets of triplets: each that starts a packet has one, of it and of those right after it that continue with a packet
abbrev pub packets_started : List Triplet → List ChannelPacket
packets_started [] = []
packets_started (triplet ∷ triplets) =
    if starts triplet then stretch_packet (record { first = triplet; more = take_while continues_packet triplets }) ∷ packets_started triplets
    else packets_started triplets

-- the channel packets of any triplets, where line 21's and those that don't count are left out
abbrev pub channel_packets_in : List Triplet → List ChannelPacket
channel_packets_in triplets = packets_started (channel_triplets triplets)

-- the first blocks of bytes, this many at most: each is a header and as many bytes after it as it says, or as have come, and the next one
-- follows these; a header 00 ends the blocks
abbrev pub first_blocks : ℕ → List ℕ → List Block
first_blocks zero bytes = []
first_blocks (suc most) [] = []
first_blocks (suc most) (header ∷ bytes) =
    if header == 0x00 then []
    else record { header = header; rest = take (rest_of header) bytes } ∷ first_blocks most (drop (rest_of header) bytes)

-- the service blocks of a packet, which has no more of them than bytes
abbrev pub blocks_in : ChannelPacket → List Block
blocks_in packet = first_blocks (length packet.bytes) packet.bytes

-- what triplets say: what the blocks of their packets say
abbrev pub said_in : List Triplet → List BlockPart
said_in triplets = said None (channel_packets_in triplets) (map blocks_in (channel_packets_in triplets))

-- what triplets say after those before: what all of them say, without what those before say
abbrev pub said_behind : List Triplet → List Triplet → List BlockPart
said_behind before triplets = drop (length (said_in before)) (said_in (before ++ triplets))
