use Rattle.std.proofs.Common.{◌≡◌, ◌+◌}
use Rattle.list_tests.proofs.field_lanes.gives.Given as goal

abbrev pub invariant-loop-pair : goal.invariant-loop-pair
invariant-loop-pair g l = l.lane.slot ≡ l.initial.lane.slot + l.pair-index
