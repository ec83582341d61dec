use Rattle.std.proofs.Common.{◌≡◌, ℕ, ◌<◌, length, take}
use Rattle.std.specs.Prelude.{slice_get}
use Rattle.std.specs.List.{list_any}
use Rattle.dual_fields.specs.Tables.{use_in}
use Rattle.dual_fields.proofs.TablesLemmas.{holds_at}
use Rattle.dual_fields.proofs.tables.mark.Given as goal

abbrev pub invariant-loop-event : goal.invariant-loop-event
invariant-loop-event l = record {
  count : length l.uses.items ≡ length l.initial.uses.items;
  uses : (n : ℕ) → n < length l.initial.uses.items
      → slice_get l.uses.items n ≡ use_in (list_any (holds_at n) (take l.event-index l.events)) l.value (slice_get l.initial.uses.items n);
}
