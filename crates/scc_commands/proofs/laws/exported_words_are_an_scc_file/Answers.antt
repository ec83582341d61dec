use Rattle.scc_commands.proofs.ExportedFileLemmas.{exported_is_file, exported_is_placed}
use Rattle.scc_commands.proofs.laws.exported_words_are_an_scc_file.Goals as goal

pub returns-clause-placed : goal.returns-clause-placed
returns-clause-placed c = exported_is_placed

pub returns-clause-counted : goal.returns-clause-counted
returns-clause-counted c = exported_is_file
