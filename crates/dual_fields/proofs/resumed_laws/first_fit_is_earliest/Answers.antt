use Rattle.dual_fields.proofs.ResumedLemmas.{first_fit_earliest}
use Rattle.dual_fields.proofs.resumed_laws.first_fit_is_earliest.Goals as goal

pub returns : goal.returns
returns c = first_fit_earliest
