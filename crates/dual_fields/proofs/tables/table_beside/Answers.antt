use Rattle.dual_fields.specs.Filled.{slots_at}
use Rattle.dual_fields.proofs.TablesLemmas.{spanned_beside}
use Rattle.dual_fields.proofs.tables.table_beside.Goals as goal

pub returns : goal.returns
returns c =
    spanned_beside c.args.count c.args.first.now c.args.own.now c.args.parts.now (slots_at c.args.places.now) c.in_ok-uses.uses.items c.mark_spans.new.uses.items
    c.requires.begun c.requires.onward c.in_ok-uses.ensures c.mark_spans.ensures
