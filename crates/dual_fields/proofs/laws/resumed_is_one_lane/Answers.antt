use Rattle.dual_fields.proofs.ExpandedLemmas.{one_lane}
use Rattle.dual_fields.proofs.laws.resumed_is_one_lane.Goals as goal

pub returns : goal.returns
returns c = one_lane
