-- Believed: the program's answer stands on these definitions.
-- At which byte of a triplet a header of a service block is refused (CTA-708-E, sections 5 and 6.2). A header says how many bytes its
-- block has after it; where the channel packet's size leaves fewer, the header's own byte is refused. In a triplet that starts a
-- packet the third byte can be a header, since the second one is the packet's; in one that continues a packet, each of both.
use Rattle.std.specs.Prelude.{◌≡◌, ℕ, ◌+◌, ◌<◌, ◌==◌, ◌&&◌, ◌⊎◌, not, Bool, true, List, [], ◌∷◌, ◌++◌, length}
use Rattle.std.specs.List.{flat_map, list_all}
use Rattle.cc_data.specs.declared.triplet.Triplet.{Triplet}
use Rattle.cc_data.specs.Triplets.{triplet_of}
use Rattle.channel_packets.specs.ChannelPackets.{AreChannelPackets, ChannelPacket, continues_packet, size_of, starts}
use Rattle.service_blocks.specs.Channels.{AreChannel}
use Rattle.service_blocks.specs.ServiceBlocks.{Block, rest_of}

-- a block has all bytes that its header says; a header 00 is none
abbrev pub is_whole_block : Block → Bool
is_whole_block block = not (block.header == 0x00) && (length block.rest == rest_of block.header)

-- the bytes of a block
abbrev pub block_bytes : Block → List ℕ
block_bytes block = block.header ∷ block.rest

-- after these bytes of a channel packet of this size, the next byte is a header, since they are whole blocks, and it says more bytes
-- than the packet has left after it
pub record PassesPacket (size : ℕ) (bytes : List ℕ) (next : ℕ) : Type 0 where
  pub blocks : List Block
  pub whole : list_all is_whole_block blocks ≡ true
  pub spelled : bytes ≡ flat_map block_bytes blocks
  pub inside : length bytes < size
  pub passes : size < length bytes + 1 + rest_of next

-- after the last channel packet of triplets, with these bytes more, the next byte passes the packet
pub record PassesLastPacket (triplets : List Triplet) (more : List ℕ) (next : ℕ) : Type 0 where
  pub before : List ChannelPacket
  pub packet : ChannelPacket
  pub packets_are : AreChannelPackets (before ++ packet ∷ []) triplets
  pub passes : PassesPacket (size_of packet.header) (packet.bytes ++ more) next

-- after these triplets, and these first bytes of the next one, its next byte is a header that passes its packet: the second byte of
-- a triplet that continues the last packet; the third one of a triplet that starts a packet, whose header is the second one; or
-- the third one of a triplet that continues the last packet
abbrev pub Overruns : List Triplet → List ℕ → ℕ → Type 0
Overruns triplets (first ∷ []) next = (continues_packet (triplet_of first next 0x00) ≡ true) × PassesLastPacket triplets [] next
Overruns triplets (first ∷ second ∷ []) next =
    (starts (triplet_of first second next) ≡ true) × PassesPacket (size_of second) [] next
    ⊎ (continues_packet (triplet_of first second next) ≡ true) × PassesLastPacket triplets (second ∷ []) next
Overruns _ _ _ = ⊥

-- in triplets one stands, after others that are a caption channel, of which a byte is a header that passes its packet: its second byte,
-- or its third
pub record HaveOverrun (triplets : List Triplet) : Type 0 where
  pub before : List Triplet
  pub first : ℕ
  pub second : ℕ
  pub third : ℕ
  pub rest : List Triplet
  pub spelled : triplets ≡ before ++ triplet_of first second third ∷ rest
  pub packets : List ChannelPacket
  pub blocks : List (List Block)
  pub channel : AreChannel packets blocks before
  pub overruns : Overruns before (first ∷ []) second ⊎ Overruns before (first ∷ second ∷ []) third
