use Rattle.words_files.proofs.FrameLemmas.{joined}
use Rattle.words_files.proofs.laws.files_are_joined.Goals as goal

pub returns : goal.returns
returns c = joined
