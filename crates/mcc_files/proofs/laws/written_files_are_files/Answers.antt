use Rattle.mcc_files.proofs.FileLemmas.{written_is_file}
use Rattle.mcc_files.proofs.laws.written_files_are_files.Goals as goal

pub returns : goal.returns
returns c = written_is_file
