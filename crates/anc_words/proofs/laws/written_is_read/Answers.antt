use Rattle.anc_words.proofs.PacketLemmas.{packet_bytes-read}
use Rattle.anc_words.proofs.laws.written_is_read.Goals as goal

pub returns : goal.returns
returns c = packet_bytes-read
