use Rattle.std.proofs.Common.{◌+◌, take, sym, subst}
use Rattle.lanes.proofs.LanePlanLemmas.{Reaches, reaches_next, reaches_none}
use Rattle.lanes.proofs.placed_field.placed_units.Goals as goal

pub returns-in_default-clause-fault : goal.returns-in_default-clause-fault
returns-in_default-clause-fault c =
    reaches_none c.args.events.now c.args.chunks.now c.loop-chunk.chunk-index _ c.loop-chunk.units.items c.loop-chunk.front.end c.requires.order
    c.loop-chunk-test.true c.loop-chunk.invariant.reaches c.in_default.ensures.none

pub loop-chunk-preserved : goal.loop-chunk-preserved
loop-chunk-preserved c = record {
  small = c.in-Some.ensures.end.1;
  front = c.in-Some.ensures.front;
  reaches = subst (λ units. Reaches c.args.events.now (take (c.loop-chunk.chunk-index + 1) c.args.chunks.now) units c.place.new.self.end)
      (sym c.in_default-push.ensures.items)
      (reaches_next c.args.events.now c.args.chunks.now c.loop-chunk.chunk-index _ c.loop-chunk.units.items c.loop-chunk.front.end c.place.new.self.end
      c.in-Some.slot c.loop-chunk-test.true c.loop-chunk.invariant.reaches c.in-Some.ensures.first c.in-Some.ensures.end.0);
}
