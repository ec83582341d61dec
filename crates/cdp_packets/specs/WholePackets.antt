-- Between crates: the program's answer stands on none of these definitions.
-- What is read of a whole caption distribution packet (SMPTE ST 334-2).
use Rattle.std.specs.Prelude.{◌≡◌}
use Rattle.std.specs.List.{concat}
use Rattle.cdp_packets.specs.declared.whole_packet.WholePacket.{WholePacket}
use Rattle.cdp_packets.specs.Packets.{Frame}

-- it says what the packet says
pub record SaysPacket (whole : WholePacket) (packet : Frame) : Type 0 where
  pub rate : whole.rate ≡ packet.rate
  pub flags : whole.flags ≡ packet.flags
  pub counter : whole.counter ≡ packet.counter
  pub sections : whole.sections.now ≡ concat packet.sections
