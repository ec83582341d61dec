use Rattle.dual_fields.proofs.SharingLemmas.{shared_own}
use Rattle.dual_fields.proofs.laws.shared_are_own.Goals as goal

pub returns : goal.returns
returns c = shared_own
