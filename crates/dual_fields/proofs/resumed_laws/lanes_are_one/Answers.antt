use Rattle.dual_fields.proofs.ResumedLemmas.{lanes_one}
use Rattle.dual_fields.proofs.resumed_laws.lanes_are_one.Goals as goal

pub returns : goal.returns
returns c = lanes_one
