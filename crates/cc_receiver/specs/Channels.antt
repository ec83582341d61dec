-- Believed: the library's answers stand on these definitions.
-- What the readers of the caption channel were fed of a file's triplets (CTA-708-E, sections 5 and 6).
use Rattle.std.specs.Prelude.{List, reverse}
use Rattle.std.specs.List.{flat_map}
use Rattle.cc_base.specs.Syntax.{parts_of}
use Rattle.cc_data.specs.declared.triplet.Triplet.{Triplet}
use Rattle.cdp_packets.specs.declared.parts.CdpPart.{CdpPart}
use Rattle.channel_packets.specs.ChannelPackets.{channel_triplets}
use Rattle.channel_packets.specs.Reading.{packet_syntax}
use Rattle.channel_packets.specs.Readers as packets
use Rattle.service_blocks.specs.Readers as blocks
use Rattle.services_files.specs.Services.{whole_triplets}
use Rattle.cc_receiver.specs.declared.channel.Channel.{Channel}

-- the readers took these triplets and refused none: the packet reader the channel packets' triplets, the block reader what they make
pub record HasHeard (triplets : List Triplet) (channel : Channel) : Type 0 where
  pub packets_read : packets.HasRead (channel_triplets triplets) channel.packets
  pub blocks_read : blocks.HasRead (parts_of packet_syntax triplets) channel.blocks

-- they took the whole triplets of these parts
abbrev pub HasTried : List CdpPart → Channel → Type 0
HasTried parts channel = HasHeard (whole_triplets parts) channel

-- the parts of frames, which stand newest first, in order
abbrev pub frames_parts : List (List CdpPart) → List CdpPart
frames_parts frames = flat_map (λ parts. parts) (reverse frames)
