use Rattle.dual_commands.proofs.JudgedLemmas.{every_first_judged}
use Rattle.dual_commands.proofs.laws.every_first_list_is_judged.Goals as goal

pub returns : goal.returns
returns c = every_first_judged
