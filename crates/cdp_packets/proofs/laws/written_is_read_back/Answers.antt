use Rattle.cdp_packets.proofs.PacketLemmas.{written-is_packet, packet_once}
use Rattle.cdp_packets.proofs.laws.written_is_read_back.Goals as goal

pub returns-clause-packet : goal.returns-clause-packet
returns-clause-packet c = written-is_packet

pub returns-clause-read : goal.returns-clause-read
returns-clause-read c rate flags counter cut p front rest more are is same =
    (packet_once p _ front _ rest more is (written-is_packet rate flags counter cut are) same).packet
