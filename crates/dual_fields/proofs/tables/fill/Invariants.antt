use Rattle.std.proofs.Common.{◌≡◌, ℕ, ◌<◌, ◌≤◌, ◌&&◌, nat_le, nat_lt, length, max}
use Rattle.std.specs.Prelude.{slice_get}
use Rattle.dual_fields.specs.Tables.{use_in}
use Rattle.dual_fields.specs.declared.slot_use.SlotUse.TheVariants.{Foreign}
use Rattle.dual_fields.proofs.tables.fill.Given as goal

abbrev pub invariant-loop-at : goal.invariant-loop-at
invariant-loop-at l = record {
  from : l.from ≤ l.at;
  within : l.at ≤ max l.from l.to;
  count : length l.uses.items ≡ length l.initial.uses.items;
  uses : (n : ℕ) → n < length l.initial.uses.items → slice_get l.uses.items n ≡ use_in (nat_le l.from n && nat_lt n l.at) Foreign (slice_get l.initial.uses.items n);
}
