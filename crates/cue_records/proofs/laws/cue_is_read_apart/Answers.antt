use Rattle.cue_records.proofs.ApartLemmas.{cue_is_read_apart}
use Rattle.cue_records.proofs.laws.cue_is_read_apart.Goals as goal

pub returns : goal.returns
returns c = cue_is_read_apart
