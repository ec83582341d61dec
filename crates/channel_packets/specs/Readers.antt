-- Believed in part: the library's answers stand on some of these definitions.
-- What a reader of channel packets keeps: the number of the last packet, and how many of its bytes are left.
use Rattle.std.specs.Prelude.{◌≡◌, List, Option}
use Rattle.cc_base.specs.declared.refusal.Refusal.{Refusal}
use Rattle.cc_base.specs.Syntax.{HasTaken}
use Rattle.cc_data.specs.declared.triplet.Triplet.{Triplet}
use Rattle.channel_packets.specs.declared.open_packet.OpenPacket.{OpenPacket}
use Rattle.channel_packets.specs.declared.reader.PacketReader.{PacketReader}
use Rattle.channel_packets.specs.Reading.{Open, packet_syntax}

-- it keeps what is open
pub record Keeps (front : Open) (packet : OpenPacket) : Type 0 where
  pub last : packet.last ≡ front.last
  pub left : packet.left ≡ front.left

-- the reader was fed these triplets, and none was refused by the layer above
abbrev pub HasRead : List Triplet → PacketReader → Type 0
HasRead triplets reader = HasTaken packet_syntax Keeps triplets reader.fed

-- the refusal of the layer above that it keeps
abbrev pub kept_refusal : PacketReader → Option Refusal
kept_refusal reader = reader.fed.refusal
