use Rattle.lanes.proofs.FieldLaneLemmas.{lane_first_fit}
use Rattle.lanes.proofs.field_laws.law_of_first_fit.Goals as goal

pub returns : goal.returns
returns c = lane_first_fit
