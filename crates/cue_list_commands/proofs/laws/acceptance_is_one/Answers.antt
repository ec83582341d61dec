use Rattle.cue_list_commands.proofs.ListVerdictLemmas.{accepted_once}
use Rattle.cue_list_commands.proofs.laws.acceptance_is_one.Goals as goal

pub returns : goal.returns
returns c = accepted_once
