use Rattle.mcc_commands.proofs.StandingLemmas.{imports_are_files, imports_at_frames, imports_stand_apart}
use Rattle.mcc_commands.proofs.imported_laws.imports_are_words_files.Goals as goal

pub returns-clause-file : goal.returns-clause-file
returns-clause-file c = imports_are_files

pub returns-clause-apart : goal.returns-clause-apart
returns-clause-apart c = imports_stand_apart

pub returns-clause-times : goal.returns-clause-times
returns-clause-times c = imports_at_frames
