use Rattle.mcc_words.proofs.PartLemmas.{packets_stand_apart, words_have_frames}
use Rattle.mcc_words.proofs.missing_laws.packets_stand_apart.Goals as goal

pub returns-clause-file : goal.returns-clause-file
returns-clause-file c = words_have_frames

pub returns-clause-apart : goal.returns-clause-apart
returns-clause-apart c = packets_stand_apart
