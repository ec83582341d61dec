use Rattle.lanes.proofs.FieldLaneLemmas.{lane_one_more}
use Rattle.lanes.proofs.field_laws.law_of_one_more.Goals as goal

pub returns : goal.returns
returns c = lane_one_more
