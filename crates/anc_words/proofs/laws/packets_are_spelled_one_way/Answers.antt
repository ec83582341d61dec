use Rattle.anc_words.proofs.PacketLemmas.{IsPacket-unique, IsPacket-same_words}
use Rattle.anc_words.proofs.laws.packets_are_spelled_one_way.Goals as goal

pub returns-clause-packet : goal.returns-clause-packet
returns-clause-packet c = IsPacket-unique

pub returns-clause-words : goal.returns-clause-words
returns-clause-words c = IsPacket-same_words
