use Rattle.scc_files.proofs.StretchLemmas.{written_is}
use Rattle.scc_files.proofs.laws.longest_stretches_are_written.Goals as goal

pub returns : goal.returns
returns c = written_is
