use Rattle.mcc_commands.proofs.FileLemmas.{imported_words}
use Rattle.mcc_commands.proofs.export_laws.exported_words_are_imported.Goals as goal

pub returns : goal.returns
returns c = imported_words
