use Rattle.anc_words.proofs.EndingLemmas.{ends_no_sooner}
use Rattle.anc_words.proofs.laws.a_packet_ends_no_sooner.Goals as goal

pub returns : goal.returns
returns c = ends_no_sooner
