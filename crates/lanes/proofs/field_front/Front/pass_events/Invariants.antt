use Rattle.std.proofs.Common.{length, ◌-◌, ℕ, ◌^◌, ◌<◌, ◌≤◌}
use Rattle.lanes.specs.LaneFront.{IsFrontOfEvents, AreFree}
use Rattle.lanes.proofs.field_front.Front.pass_events.Given as goal

abbrev pub invariant-loop-event : goal.invariant-loop-event
invariant-loop-event l = record {
  small : l.self.end < 2 ^ 33;
  behind : l.fn.self.end ≤ l.self.end;
  front : IsFrontOfEvents l.events l.self;
  onward : l.fn.self.passed ≤ l.self.passed;
  first : (other : ℕ) → l.fn.self.end ≤ other → AreFree l.events l.slots other → l.self.end ≤ other;
}

abbrev pub decreases-loop-event : goal.decreases-loop-event
decreases-loop-event l = length l.events - l.self.passed
