use Rattle.std.proofs.Common.{◌≡◌, ◌-◌, ◌≤◌}
use Rattle.frame_carrier.specs.Columns.{Columns}
use Rattle.frame_carrier.specs.Frames.{GivesFrom, frames_left}
use Rattle.live_frames.proofs.live.skipped.Given as goal

-- this many frames are passed
abbrev pub invariant-loop : goal.invariant-loop
invariant-loop l = record {
  left : frames_left l.plan ≡ frames_left l.initial.plan - l.counter;
  gives : (columns : Columns) → GivesFrom columns 0 l.initial.plan → l.frames ≤ frames_left l.initial.plan → GivesFrom columns l.counter l.plan;
}
