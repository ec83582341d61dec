use Rattle.mcc_words.proofs.PlaceLemmas.{missing_change_nothing}
use Rattle.mcc_words.proofs.missing_laws.missing_frames_change_nothing.Goals as goal

pub returns : goal.returns
returns c = missing_change_nothing
