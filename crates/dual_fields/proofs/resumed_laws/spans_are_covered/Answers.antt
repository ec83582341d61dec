use Rattle.dual_fields.proofs.SpansLemmas.{spans_covered}
use Rattle.dual_fields.proofs.resumed_laws.spans_are_covered.Goals as goal

pub returns : goal.returns
returns c = spans_covered
