use Rattle.std.proofs.Common.{arith}
use Rattle.frame_carrier.specs.Frames.{frames_left}
use Rattle.live_frames.proofs.LiveLemmas.{skip_gives, skip_left}
use Rattle.live_frames.proofs.live.skipped.Goals as goal

pub loop-preserved : goal.loop-preserved
loop-preserved c = record {
  left = skip_left c.next.result (frames_left c.loop.plan) (frames_left c.next.new.self) (frames_left c.args.plan) c.loop.counter
      c.next.ensures.left c.next.ensures.ends c.loop.invariant.left;
  gives = λ columns gives enough.
      skip_gives c.next.result columns c.loop.counter c.loop.plan c.next.new.self c.next.ensures.left
      (let left = c.loop.invariant.left in let test = c.loop-test.true in omega arith)
      (c.next.ensures.gives columns c.loop.counter (c.loop.invariant.gives columns gives enough));
}
