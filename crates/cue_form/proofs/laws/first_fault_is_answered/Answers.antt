use Rattle.cue_form.proofs.Unique.{first_fault_read}
use Rattle.cue_form.proofs.laws.first_fault_is_answered.Goals as goal

pub returns : goal.returns
returns c = first_fault_read
