use Rattle.mcc_words.proofs.MakerLemmas.{calls_make}
use Rattle.mcc_words.proofs.laws.calls_make_the_words.Goals as goal

pub returns : goal.returns
returns c = calls_make
