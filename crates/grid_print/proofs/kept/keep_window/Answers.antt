use Rattle.std.proofs.Common.{◌∙◌, ap, sym}
use Rattle.dtvcc_windows.specs.Objects.{window_of}
use Rattle.dtvcc_windows.specs.Showing.{shown}
use Rattle.grid_print.specs.Differences.{differs}
use Rattle.grid_print.proofs.kept.keep_window.Goals as goal

pub returns-in-None-clause-told : goal.returns-in-None-clause-told
returns-in-None-clause-told g c seen behind =
    c.hide.ensures.told ∙ ap (differs (shown (window_of c.args.kept.now))) (sym (c.in-None.ensures.seen seen behind))

pub returns-in-None-clause-kept : goal.returns-in-None-clause-kept
returns-in-None-clause-kept g c seen behind = c.hide.ensures.kept ∙ sym (c.in-None.ensures.seen seen behind)

pub returns-in-Some-clause-told : goal.returns-in-Some-clause-told
returns-in-Some-clause-told g c seen behind =
    c.take_over.ensures.told ∙ ap (differs (shown (window_of c.args.kept.now))) (sym (c.in-Some.ensures.seen seen behind))

pub returns-in-Some-clause-kept : goal.returns-in-Some-clause-kept
returns-in-Some-clause-kept g c seen behind = c.take_over.ensures.kept ∙ sym (c.in-Some.ensures.seen seen behind)
