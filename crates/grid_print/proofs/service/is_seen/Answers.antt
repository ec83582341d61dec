use Rattle.std.proofs.Common.{◌∙◌, ap, is_some, sym}
use Rattle.grid_print.proofs.service.is_seen.Goals as goal

pub returns-in-Some : goal.returns-in-Some
returns-in-Some g c seen behind =
    c.is_shown.ensures ∙ ap is_some (sym (c.in-Some.ensures.seen seen behind))

pub returns-in-None : goal.returns-in-None
returns-in-None g c seen behind =
    ap is_some (sym (c.in-None.ensures.seen seen behind))
