use Rattle.mcc_files.proofs.WordLemmas.{packet_is_payload, payload_is_packet}
use Rattle.mcc_files.proofs.payload_laws.payloads_are_packets.Goals as goal

pub returns-clause-packet : goal.returns-clause-packet
returns-clause-packet c = payload_is_packet

pub returns-clause-payload : goal.returns-clause-payload
returns-clause-payload c = packet_is_payload
