use Rattle.std.proofs.Common.{take}
use Rattle.dual_fields.specs.Slots.{slots_in}
use Rattle.dual_fields.proofs.FillLemmas.{Reaches}
use Rattle.dual_fields.proofs.fill.place_all.Given as goal

abbrev pub invariant-loop-part : goal.invariant-loop-part
invariant-loop-part l = record {
  reaches : Reaches (slots_in l.uses) (take l.part-index l.parts) l.places.items l.end;
}
