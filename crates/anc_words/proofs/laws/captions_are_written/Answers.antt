use Rattle.anc_words.proofs.PacketLemmas.{IsPacketBytes-caption}
use Rattle.anc_words.proofs.laws.captions_are_written.Goals as goal

pub returns : goal.returns
returns c = IsPacketBytes-caption
