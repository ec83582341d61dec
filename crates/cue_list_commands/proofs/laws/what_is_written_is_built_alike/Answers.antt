use Rattle.cue_list_commands.proofs.Migrated.{written_is_built_alike}
use Rattle.cue_list_commands.proofs.laws.what_is_written_is_built_alike.Goals as goal

pub returns : goal.returns
returns c = written_is_built_alike
