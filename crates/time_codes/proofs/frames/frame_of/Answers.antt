use Rattle.time_codes.proofs.InEachCount.{frame_at_30}
use Rattle.time_codes.proofs.frames.frame_of.Goals as goal

pub returns : goal.returns
returns c =
    let at_30 = frame_at_30 c.args.t in
    cc
