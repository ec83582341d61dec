use Rattle.lanes.proofs.OneCueLemmas.{one_cue}
use Rattle.lanes.proofs.field_laws.law_of_one_cue.Goals as goal

pub returns : goal.returns
returns c = one_cue
