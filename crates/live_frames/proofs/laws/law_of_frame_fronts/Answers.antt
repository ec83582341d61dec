use Rattle.live_frames.proofs.ColumnFronts.{frame_front_kept}
use Rattle.live_frames.proofs.laws.law_of_frame_fronts.Goals as goal

pub returns : goal.returns
returns c = frame_front_kept
