use Rattle.xds_lists.proofs.ReadLemmas.{first_fault_is_answered}
use Rattle.xds_lists.proofs.laws.first_fault_is_answered.Goals as goal

pub returns : goal.returns
returns c = first_fault_is_answered
