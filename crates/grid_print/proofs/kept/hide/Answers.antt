use Rattle.std.proofs.Common.{◌∙◌}
use Rattle.dtvcc_windows.specs.Objects.{window_of}
use Rattle.dtvcc_windows.specs.Showing.{shown}
use Rattle.grid_print.proofs.KeptLemmas.{differs_none}
use Rattle.grid_print.proofs.kept.hide.Goals as goal

pub returns-then-was-clause-told : goal.returns-then-was-clause-told
returns-then-was-clause-told c = c.is_shown-was.ensures ∙ differs_none (shown (window_of c.args.kept.now))

pub returns-else-was-clause-told : goal.returns-else-was-clause-told
returns-else-was-clause-told c = c.is_shown-was.ensures ∙ differs_none (shown (window_of c.args.kept.now))
