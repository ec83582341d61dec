use Rattle.mcc_commands.proofs.FileLemmas.{exported_file}
use Rattle.mcc_commands.proofs.export_laws.exported_words_are_an_mcc_file.Goals as goal

pub returns : goal.returns
returns c = exported_file
