use Rattle.live_frames.proofs.ColumnFronts.{word_front_kept}
use Rattle.live_frames.proofs.laws.law_of_word_fronts.Goals as goal

pub returns : goal.returns
returns c = word_front_kept
