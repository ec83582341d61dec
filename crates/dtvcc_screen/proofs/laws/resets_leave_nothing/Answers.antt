use Rattle.dtvcc_screen.proofs.LawLemmas.{reset_leaves}
use Rattle.dtvcc_screen.proofs.laws.resets_leave_nothing.Goals as goal

pub returns-clause-command : goal.returns-clause-command
returns-clause-command c = reset_leaves
