use Rattle.std.proofs.Common.{sym, subst}
use Rattle.lanes.specs.LaneCursor.{IsReadyForPairs}
use Rattle.lanes.specs.FieldPlan.{AreInEarliest}
use Rattle.lanes.specs.LaneTimeline.{placed_timeline}
use Rattle.lanes.proofs.LanePlanLemmas.{ready_start}
use Rattle.lanes.proofs.placed_field.FieldLane.place.Goals as goal

pub invariant_of-result : goal.invariant_of-result
invariant_of-result c =
    let events = c.args.self.events.items in
    let chunks = c.args.self.chunks.items in
    let units = c.in_ok-units.units.items in
    subst (λ k. IsReadyForPairs (placed_timeline events units) events units k) (sym c.start.ensures)
    (ready_start events chunks units c.requires.apart
    (subst (λ l. AreInEarliest events l units) c.deref.ensures.value
    (subst (λ l. AreInEarliest l c.deref.result.now units) c.deref-2.ensures.value c.in_ok-units.ensures.units)))
