use Rattle.std.proofs.Common.{◌+◌, take, sym, ap, subst}
use Rattle.dual_fields.specs.Slots.{slots_in}
use Rattle.dual_fields.proofs.FillLemmas.{Reaches, reaches_next, reaches_none, table_sound}
use Rattle.dual_fields.proofs.fill.place_all.Goals as goal

pub returns-in_default-clause-fault : goal.returns-in_default-clause-fault
returns-in_default-clause-fault c =
    reaches_none (slots_in c.args.uses.now) (table_sound c.args.uses.now) c.args.parts.now c.loop-part.part-index _ c.loop-part.places.items c.loop-part.end
    c.requires.begun c.requires.order c.loop-part-test.true c.loop-part.invariant.reaches c.in_default.ensures.none

pub loop-part-preserved : goal.loop-part-preserved
loop-part-preserved c = record {
  reaches = subst (λ places. Reaches (slots_in c.args.uses.now) (take (c.loop-part.part-index + 1) c.args.parts.now) places (c.in-Some.place.slot + c.slots.result))
      (sym c.in_default-push.ensures.items)
      (reaches_next (slots_in c.args.uses.now) (table_sound c.args.uses.now) c.args.parts.now c.loop-part.part-index _ c.loop-part.places.items c.loop-part.end
      (c.in-Some.place.slot + c.slots.result) c.in-Some.place c.requires.begun c.loop-part-test.true c.loop-part.invariant.reaches
      c.in-Some.ensures.first c.in-Some.ensures.resumes (ap (λ n. c.in-Some.place.slot + n) c.slots.ensures));
}
