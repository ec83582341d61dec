use Rattle.std.proofs.Common.{◌≡◌, false, drop, sym, ap, ◌∙◌, arith}
use Rattle.std.specs.Prelude.{slice_get}
use Rattle.std.proofs.lemmas.List.{drop_all}
use Rattle.dual_fields.specs.Filled.{slots_at}
use Rattle.dual_fields.specs.Spans.{covers}
use Rattle.dual_fields.specs.Tables.{use_in}
use Rattle.dual_fields.specs.declared.slot_use.SlotUse.TheVariants.{Foreign}
use Rattle.dual_fields.proofs.TablesLemmas.{none_covered}
use Rattle.dual_fields.proofs.tables.mark_spans.Goals as goal

pub returns-else-index-places : goal.returns-else-index-places
returns-else-index-places c = record {
  count = c.loop-index.invariant.count;
  uses = λ n below.
      let none : covers c.loop-index.end (drop c.loop-index.index c.args.parts.now) (slots_at (drop c.loop-index.index c.args.places.now)) n ≡ false =
      ap (λ places. covers c.loop-index.end (drop c.loop-index.index c.args.parts.now) (slots_at places) n) (drop_all c.loop-index.index c.args.places.now (omega (arith, c.if-index-places.false)))
      ∙ none_covered c.loop-index.end (drop c.loop-index.index c.args.parts.now) n in
      sym (ap (λ b. use_in b Foreign (slice_get c.loop-index.uses.items n)) none) ∙ c.loop-index.invariant.left n below;
}
