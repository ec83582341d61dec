use Rattle.std.proofs.Common.{◌∙◌, sym}
use Rattle.text_output.proofs.PageLemmas.{some_none, writes_none, writes_same}
use Rattle.grid_print.specs.WindowTexts.{service_text}
use Rattle.grid_print.proofs.ScreenLemmas.{none_if, text_if}
use Rattle.grid_print.proofs.shown.write_if_changed.Goals as goal

pub returns-then-has_changed-clause-text : goal.returns-then-has_changed-clause-text
returns-then-has_changed-clause-text g c seen behind =
    writes_same _ _ _ _ (text_if c.args.kept.now.changed (service_text c.args.service (seen c.args.service)) (sym c.has_changed.ensures ∙ c.if-has_changed.true))
    (c.write_service.ensures.text seen behind)

pub returns-else-has_changed-clause-some : goal.returns-else-has_changed-clause-some
returns-else-has_changed-clause-some g c = some_none _

pub returns-else-has_changed-clause-text : goal.returns-else-has_changed-clause-text
returns-else-has_changed-clause-text g c seen behind =
    writes_same _ _ _ _ (none_if c.args.kept.now.changed (service_text c.args.service (seen c.args.service)) (sym c.has_changed.ensures ∙ c.if-has_changed.false))
    (writes_none _)
