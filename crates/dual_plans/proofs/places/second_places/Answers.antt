use Rattle.lanes.specs.LaneEvents.{event_at}
use Rattle.dual_fields.specs.FieldSlots.{first_slots, second_slots}
use Rattle.dual_fields.specs.Filled.{resumes_at, slots_at}
use Rattle.dual_fields.specs.Spans.{in_spans}
use Rattle.dual_plans.proofs.PlacesLemmas.{fault_result, filled_result, go_on}
use Rattle.dual_plans.proofs.places.second_places.Goals as goal

pub table_beside-requires-clause-onward : goal.table_beside-requires-clause-onward
table_beside-requires-clause-onward c =
    rw c.deref-3.ensures.value
    (go_on (first_slots (event_at c.args.one.now.events.items) (event_at c.args.two.now.events.items)) 0 c.args.one.now.parts.items (slots_at c.args.places.now)
    (resumes_at c.args.places.now) c.requires.placed.stand)

pub returns-in-Ok-clause-filled : goal.returns-in-Ok-clause-filled
returns-in-Ok-clause-filled c =
    filled_result c.slots_needed-count.result
    (second_slots (event_at c.args.one.now.events.items) (event_at c.args.two.now.events.items) (in_spans c.args.one.now.parts.items (slots_at c.args.places.now)))
    c.in-Ok.uses.items c.args.two.now.parts.items
    (rw (c.deref.ensures.value, c.deref-2.ensures.value, c.deref-3.ensures.value) at c.in-Ok.ensures).agree c.slots_needed-count.ensures.ends c.place_all.result
    (rw (c.deref-in-Ok.ensures.value, c.deref-in-Ok-2.ensures.value) at c.place_all.ensures.filled)

pub returns-in-Ok-clause-fault : goal.returns-in-Ok-clause-fault
returns-in-Ok-clause-fault c =
    fault_result c.slots_needed-count.result
    (second_slots (event_at c.args.one.now.events.items) (event_at c.args.two.now.events.items) (in_spans c.args.one.now.parts.items (slots_at c.args.places.now)))
    c.in-Ok.uses.items c.args.two.now.parts.items
    (rw (c.deref.ensures.value, c.deref-2.ensures.value, c.deref-3.ensures.value) at c.in-Ok.ensures).agree c.slots_needed-count.ensures.ends c.place_all.result
    (rw (c.deref-in-Ok.ensures.value, c.deref-in-Ok-2.ensures.value) at c.place_all.ensures.fault)
