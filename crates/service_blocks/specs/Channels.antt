-- Believed in part: the program's answer stands on some of these definitions.
-- The caption channel of a file (CTA-708-E, sections 5 and 6): triplets of cc_data, their channel packets, and the service blocks of
-- each packet.
use Rattle.std.specs.Prelude.{ℕ, if◌then◌else◌, List, [], ◌∷◌, ◌++◌, Option, Some, ⊤}
use Rattle.std.specs.List.{flat_map}
use Rattle.cc_base.specs.Syntax.{AllRead, AllTaken, open_behind, parts_from, parts_of}
use Rattle.channel_packets.specs.Triplet.{Triplet}
use Rattle.channel_packets.specs.ChannelPackets.{AreChannelPackets, ChannelPacket, is_gap, number_of, size_of}
use Rattle.channel_packets.specs.Reading.{packet_syntax}
use Rattle.service_blocks.specs.declared.parts.BlockPart.{BlockPart}
use Rattle.service_blocks.specs.declared.parts.BlockPart.TheVariants as part
use Rattle.service_blocks.specs.ServiceBlocks.{AreBlocks, Block}
use Rattle.service_blocks.specs.BlockParts.{block_parts}
use Rattle.service_blocks.specs.Reading.{block_syntax}

-- each packet's bytes are its blocks
abbrev pub HaveBlocks : List ChannelPacket → List (List Block) → Type 0
HaveBlocks [] [] = ⊤
HaveBlocks (packet ∷ packets) (blocks ∷ others) = AreBlocks (size_of packet.header) blocks packet.bytes × HaveBlocks packets others
HaveBlocks _ _ = ⊥

-- the triplets have these packets, and each of these its blocks
pub record AreChannel (packets : List ChannelPacket) (blocks : List (List Block)) (triplets : List Triplet) : Type 0 where
  pub packets_are : AreChannelPackets packets triplets
  pub blocks_are : HaveBlocks packets blocks

-- what packets of these blocks say, after one of the last number: a reset where a packet is missing, and the bytes of services
abbrev pub said : Option ℕ → List ChannelPacket → List (List Block) → List BlockPart
said last (packet ∷ packets) (blocks ∷ others) =
    (if is_gap last (number_of packet.header) then part.Reset ∷ [] else [])
    ++ (flat_map block_parts blocks ++ said (Some (number_of packet.header)) packets others)
said last _ _ = []

-- none of the triplets is refused, by the reader of packets under the reader of blocks
abbrev pub IsHeard : List Triplet → Type 0
IsHeard triplets = AllRead block_syntax (parts_of packet_syntax triplets)

-- what both readers make of the triplets
abbrev pub heard_parts : List Triplet → List BlockPart
heard_parts triplets = parts_of block_syntax (parts_of packet_syntax triplets)

-- after the triplets before, none of these is refused
abbrev pub IsHeardBehind : List Triplet → List Triplet → Type 0
IsHeardBehind before triplets =
    AllTaken block_syntax (open_behind block_syntax (parts_of packet_syntax before)) (parts_from packet_syntax (open_behind packet_syntax before) triplets)

-- what both readers make of triplets after those before
abbrev pub heard_behind : List Triplet → List Triplet → List BlockPart
heard_behind before triplets =
    parts_from block_syntax (open_behind block_syntax (parts_of packet_syntax before)) (parts_from packet_syntax (open_behind packet_syntax before) triplets)
