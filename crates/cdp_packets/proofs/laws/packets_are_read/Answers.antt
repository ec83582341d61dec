use Rattle.cdp_packets.proofs.ReadLemmas.{packet_length, packet_read, packet_handed}
use Rattle.cdp_packets.proofs.laws.packets_are_read.Goals as goal

pub returns-clause-length : goal.returns-clause-length
returns-clause-length c = packet_length

pub returns-clause-read : goal.returns-clause-read
returns-clause-read c = packet_read

pub returns-clause-handed : goal.returns-clause-handed
returns-clause-handed c = packet_handed
