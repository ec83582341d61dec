use Rattle.std.proofs.Common.{◌∙◌, sym}
use Rattle.grid_print.proofs.KeptLemmas.{none_where_unseen}
use Rattle.grid_print.proofs.service.seen.Goals as goal

pub returns-then-is_shown-clause-seen : goal.returns-then-is_shown-clause-seen
returns-then-is_shown-clause-seen g c seen behind =
    c.in-Some.ensures.seen seen behind

pub returns-else-is_shown-clause-seen : goal.returns-else-is_shown-clause-seen
returns-else-is_shown-clause-seen g c seen behind =
    c.in-Some.ensures.seen seen behind
    ∙ none_where_unseen c.in-Some.window.now (sym c.is_shown.ensures ∙ c.if-is_shown.false)

pub returns-in-None-clause-seen : goal.returns-in-None-clause-seen
returns-in-None-clause-seen g c seen behind =
    c.in-None.ensures.seen seen behind
