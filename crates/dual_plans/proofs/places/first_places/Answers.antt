use Rattle.lanes.specs.LaneEvents.{event_at}
use Rattle.dual_fields.specs.FieldSlots.{first_slots}
use Rattle.dual_plans.proofs.PlacesLemmas.{fault_result, filled_result}
use Rattle.dual_plans.proofs.places.first_places.Goals as goal

pub returns-in-Ok-clause-filled : goal.returns-in-Ok-clause-filled
returns-in-Ok-clause-filled c =
    filled_result c.slots_needed-count.result (first_slots (event_at c.args.one.now.events.items) (event_at c.args.two.now.events.items)) c.in-Ok.uses.items c.args.one.now.parts.items
    (rw (c.deref.ensures.value, c.deref-2.ensures.value) at c.in-Ok.ensures).agree c.slots_needed-count.ensures.ends c.place_all.result
    (rw (c.deref-in-Ok.ensures.value, c.deref-in-Ok-2.ensures.value) at c.place_all.ensures.filled)

pub returns-in-Ok-clause-fault : goal.returns-in-Ok-clause-fault
returns-in-Ok-clause-fault c =
    fault_result c.slots_needed-count.result (first_slots (event_at c.args.one.now.events.items) (event_at c.args.two.now.events.items)) c.in-Ok.uses.items c.args.one.now.parts.items
    (rw (c.deref.ensures.value, c.deref-2.ensures.value) at c.in-Ok.ensures).agree c.slots_needed-count.ensures.ends c.place_all.result
    (rw (c.deref-in-Ok.ensures.value, c.deref-in-Ok-2.ensures.value) at c.place_all.ensures.fault)
