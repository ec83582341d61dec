use Rattle.scc_files.proofs.AnswerLemmas.{file_answers}
use Rattle.scc_files.proofs.reading.read_scc.Goals as goal

pub returns-clause-file : goal.returns-clause-file
returns-clause-file c = file_answers _ _ _ c.read_bytes.ensures
