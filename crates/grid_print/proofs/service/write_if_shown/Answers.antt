use Rattle.text_output.proofs.PageLemmas.{some_none, writes_none, writes_same}
use Rattle.grid_print.proofs.ScreenLemmas.{none_shown, some_shown}
use Rattle.grid_print.proofs.service.write_if_shown.Goals as goal

pub returns-then-seen_count-ne0-clause-text : goal.returns-then-seen_count-ne0-clause-text
returns-then-seen_count-ne0-clause-text g c seen behind =
    writes_same _ _ _ _ (some_shown seen c.args.service c.seen_count.result (c.seen_count.ensures seen behind) c.if-seen_count-ne0.true)
    (c.write_service.ensures.text seen behind)

pub returns-else-seen_count-ne0-clause-some : goal.returns-else-seen_count-ne0-clause-some
returns-else-seen_count-ne0-clause-some g c = some_none _

pub returns-else-seen_count-ne0-clause-text : goal.returns-else-seen_count-ne0-clause-text
returns-else-seen_count-ne0-clause-text g c seen behind =
    writes_same _ _ _ _ (none_shown seen c.args.service c.seen_count.result (c.seen_count.ensures seen behind) c.if-seen_count-ne0.false)
    (writes_none _)
