use Rattle.dual_fields.proofs.ResumingLemmas.{resumes_idle}
use Rattle.dual_fields.proofs.laws.resumes_change_nothing.Goals as goal

pub returns : goal.returns
returns c = resumes_idle
