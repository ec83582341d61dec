use Rattle.std.proofs.Common.{ap, ◌∙◌, take_all, arith}
use Rattle.std.specs.Prelude.{slice_get}
use Rattle.std.specs.List.{list_any}
use Rattle.dual_fields.specs.Tables.{use_in}
use Rattle.dual_fields.proofs.TablesLemmas.{any_holds, holds_at}
use Rattle.dual_fields.proofs.tables.mark.Goals as goal

pub returns : goal.returns
returns c = record {
  count = c.loop-event.invariant.count;
  uses = λ n below.
      c.loop-event.invariant.uses n below
      ∙ ap (λ events. use_in (list_any (holds_at n) events) c.args.value (slice_get c.args.uses.now.items n))
      (take_all c.loop-event.event-index c.args.events.now (omega (arith, c.loop-event-test.false)))
      ∙ ap (λ b. use_in b c.args.value (slice_get c.args.uses.now.items n)) (any_holds c.args.events.now n);
}
