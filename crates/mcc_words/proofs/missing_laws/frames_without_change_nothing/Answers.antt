use Rattle.mcc_words.proofs.UnchangedLemmas.{without_change_nothing, without_tell_time}
use Rattle.mcc_words.proofs.missing_laws.frames_without_change_nothing.Goals as goal

pub returns-clause-shown : goal.returns-clause-shown
returns-clause-shown c = without_change_nothing

pub returns-clause-told : goal.returns-clause-told
returns-clause-told c = without_tell_time
