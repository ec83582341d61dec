use Rattle.std.proofs.Common.{◌^◌, ◌<◌, take}
use Rattle.lanes.specs.LaneFront.{IsFrontOfEvents}
use Rattle.lanes.proofs.LanePlanLemmas.{Reaches}
use Rattle.lanes.proofs.placed_field.placed_units.Given as goal

abbrev pub invariant-loop-chunk : goal.invariant-loop-chunk
invariant-loop-chunk l = record {
  small : l.front.end < 2 ^ 32;
  front : IsFrontOfEvents l.events l.front;
  reaches : Reaches l.events (take l.chunk-index l.chunks) l.units.items l.front.end;
}
