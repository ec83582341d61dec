use Rattle.cdp_packets.proofs.PacketLemmas.{packet_once}
use Rattle.cdp_packets.proofs.laws.packets_are_told_apart.Goals as goal

pub returns-clause-packet : goal.returns-clause-packet
returns-clause-packet c p q front begin rest more is are same =
    (packet_once p q front begin rest more is are same).packet

pub returns-clause-bytes : goal.returns-clause-bytes
returns-clause-bytes c p q front begin rest more is are same =
    (packet_once p q front begin rest more is are same).bytes

pub returns-clause-rest : goal.returns-clause-rest
returns-clause-rest c p q front begin rest more is are same =
    (packet_once p q front begin rest more is are same).rest
