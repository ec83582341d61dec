use Rattle.live_frames.proofs.ColumnFronts.{words_share_front}
use Rattle.live_frames.proofs.laws.law_of_shared_fronts.Goals as goal

pub returns : goal.returns
returns c = words_share_front
