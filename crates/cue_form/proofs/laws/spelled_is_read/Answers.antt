use Rattle.cue_form.proofs.Complete.{list_of-spelled}
use Rattle.cue_form.proofs.laws.spelled_is_read.Goals as goal

pub returns : goal.returns
returns c = list_of-spelled
