use Rattle.lanes.proofs.DoublingLemmas.{lane_doubled}
use Rattle.lanes.proofs.field_laws.law_of_doubling.Goals as goal

pub returns : goal.returns
returns c = lane_doubled
