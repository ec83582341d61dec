use Rattle.cue_list_commands.proofs.ListVerdictLemmas.{refused_once}
use Rattle.cue_list_commands.proofs.laws.refusal_is_one.Goals as goal

pub returns : goal.returns
returns c = refused_once
