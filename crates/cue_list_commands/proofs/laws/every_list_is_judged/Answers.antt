use Rattle.cue_list_commands.proofs.ListVerdictLemmas.{every_list_judged}
use Rattle.cue_list_commands.proofs.laws.every_list_is_judged.Goals as goal

pub returns : goal.returns
returns c = every_list_judged
