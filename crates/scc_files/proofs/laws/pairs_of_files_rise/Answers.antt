use Rattle.scc_files.proofs.Rising.{file_bytes, file_rises}
use Rattle.scc_files.proofs.laws.pairs_of_files_rise.Goals as goal

pub returns-clause-rise : goal.returns-clause-rise
returns-clause-rise c = file_rises

pub returns-clause-bytes : goal.returns-clause-bytes
returns-clause-bytes c = file_bytes
