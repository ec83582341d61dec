use Rattle.anc_words.proofs.PacketLemmas.{packet-bytes}
use Rattle.anc_words.proofs.laws.packets_have_bytes.Goals as goal

pub returns-clause-bytes : goal.returns-clause-bytes
returns-clause-bytes c = packet-bytes

pub returns-clause-free : goal.returns-clause-free
returns-clause-free c = λ packet word below other. record { ten_bits = below; caption = λ is. absurd (other is) }
