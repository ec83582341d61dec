use Rattle.scc_files.proofs.StretchLemmas.{calls_write}
use Rattle.scc_files.proofs.laws.calls_write_the_file.Goals as goal

pub returns : goal.returns
returns c = calls_write
