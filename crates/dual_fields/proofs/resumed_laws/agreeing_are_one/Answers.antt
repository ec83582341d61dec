use Rattle.dual_fields.proofs.AgreeingLemmas.{agreeing_one}
use Rattle.dual_fields.proofs.resumed_laws.agreeing_are_one.Goals as goal

pub returns : goal.returns
returns c = agreeing_one
