use Rattle.anc_words.proofs.PacketLemmas.{IsPacketBytes-unique, IsPacketBytes-same_bytes}
use Rattle.anc_words.proofs.laws.packet_bytes_are_spelled_one_way.Goals as goal

pub returns-clause-packet : goal.returns-clause-packet
returns-clause-packet c = IsPacketBytes-unique

pub returns-clause-bytes : goal.returns-clause-bytes
returns-clause-bytes c = IsPacketBytes-same_bytes
