use Rattle.std.proofs.Common.{◌≡◌, subst}
use Rattle.lanes.specs.FieldPlan.{PlannedField}
use Rattle.lanes.specs.LaneTimeline.{placed_timeline}
use Rattle.lanes.specs.Timeline.{slot}
use Rattle.lanes.proofs.LanePlanLemmas.{gives_at}
use Rattle.lanes.proofs.placed_field.PlacedField.next.Goals as goal

pub invariant_of-self : goal.invariant_of-self
invariant_of-self c =
    let events = c.self.inside.events.items in
    let units = c.self.inside.units.items in
    (gives_at _ events _ units _ _ _ c.deref-2.ensures.value c.deref.ensures.value c.step.ensures.gives
    (placed_timeline events units) c.self.invariant).ready

pub returns-clause-pair : goal.returns-clause-pair
returns-clause-pair c =
    let events = c.self.inside.events.items in
    let units = c.self.inside.units.items in
    subst (λ (p : PlannedField). c.step.result ≡ slot (placed_timeline p.events p.units) p.slot) c.self.view_is
    ((gives_at _ events _ units _ _ _ c.deref-2.ensures.value c.deref.ensures.value c.step.ensures.gives
    (placed_timeline events units) c.self.invariant).pair_is)
