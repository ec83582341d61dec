use Rattle.frame_scheduler.proofs.EndLemmas.{nothing_behind}
use Rattle.frame_scheduler.proofs.laws.law_of_the_end.Goals as goal

pub returns : goal.returns
returns c = nothing_behind
