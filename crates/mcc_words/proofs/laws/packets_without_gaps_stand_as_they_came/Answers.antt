use Rattle.mcc_words.proofs.CloseLemmas.{close_as_they_came}
use Rattle.mcc_words.proofs.laws.packets_without_gaps_stand_as_they_came.Goals as goal

pub returns : goal.returns
returns c = close_as_they_came
