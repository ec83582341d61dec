use Rattle.cue_records.proofs.SpelledLemmas.{apart_is_spelled}
use Rattle.cue_records.proofs.laws.apart_is_spelled.Goals as goal

pub returns : goal.returns
returns c = apart_is_spelled
