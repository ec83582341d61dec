use Rattle.std.proofs.Common.{◌≡◌, ℕ, ◌<◌, ◌-◌, drop, length}
use Rattle.std.specs.Prelude.{slice_get}
use Rattle.dual_fields.specs.Filled.{slots_at}
use Rattle.dual_fields.specs.Spans.{covers}
use Rattle.dual_fields.specs.Tables.{use_in}
use Rattle.dual_fields.specs.declared.slot_use.SlotUse.TheVariants.{Foreign}
use Rattle.dual_fields.proofs.tables.mark_spans.Given as goal

abbrev pub invariant-loop-index : goal.invariant-loop-index
invariant-loop-index l = record {
  count : length l.uses.items ≡ length l.initial.uses.items;
  left : (n : ℕ) → n < length l.initial.uses.items
      → use_in (covers l.end (drop l.index l.parts) (slots_at (drop l.index l.places)) n) Foreign (slice_get l.uses.items n)
      ≡ use_in (covers 0 l.parts (slots_at l.places) n) Foreign (slice_get l.initial.uses.items n);
}

abbrev pub decreases-loop-index : goal.decreases-loop-index
decreases-loop-index l = length l.parts - l.index
