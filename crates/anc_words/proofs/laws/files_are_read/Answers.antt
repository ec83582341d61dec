use Rattle.anc_words.proofs.ByteLemmas.{file_is_read, file_is_handed}
use Rattle.anc_words.proofs.laws.files_are_read.Goals as goal

pub returns-clause-read : goal.returns-clause-read
returns-clause-read c = file_is_read

pub returns-clause-handed : goal.returns-clause-handed
returns-clause-handed c = file_is_handed
