use Rattle.time_codes.proofs.InEachCount.{frame_at_30, time_at_30}
use Rattle.time_codes.proofs.laws.counts_at_30_frames_a_second.Goals as goal

pub returns-clause-frame : goal.returns-clause-frame
returns-clause-frame c = frame_at_30

pub returns-clause-time : goal.returns-clause-time
returns-clause-time c = time_at_30
