use Rattle.dual_fields.proofs.DualLemmas.{both_seen}
use Rattle.dual_fields.proofs.laws.both_are_seen.Goals as goal

pub returns : goal.returns
returns c = both_seen
