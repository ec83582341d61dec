use Rattle.std.proofs.Common.{◌+◌, subst}
use Rattle.frame_carrier.specs.Carrying.{IsAt, packet_count}
use Rattle.frame_carrier.proofs.carrier.Carrier.triplets.Goals as goal

pub returns-clause-next : goal.returns-clause-next
returns-clause-next c rate number count at =
    subst (λ l. IsAt rate (number + 1) (count + packet_count l) c.pass.new.self) c.deref.ensures.0
    (c.pass.ensures.next rate number (count + packet_count c.deref.result.now) (c.channel_packet-packet.ensures.next rate number count at))
