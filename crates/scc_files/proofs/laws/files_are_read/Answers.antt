use Rattle.scc_files.proofs.Complete.{file_read}
use Rattle.scc_files.proofs.Timed.{file_sound}
use Rattle.scc_files.proofs.laws.files_are_read.Goals as goal

pub returns-clause-read : goal.returns-clause-read
returns-clause-read c = file_read

pub returns-clause-files : goal.returns-clause-files
returns-clause-files c = file_sound
