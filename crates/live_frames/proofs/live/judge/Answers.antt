use Rattle.std.proofs.Common.{arith}
use Rattle.live_frames.proofs.live.judge.Goals as goal

pub returns-in-Ok : goal.returns-in-Ok
returns-in-Ok c = record { ruled = c.in_default.ensures.judged; loaded = omega arith; answer = c.in-Ok.ensures }
