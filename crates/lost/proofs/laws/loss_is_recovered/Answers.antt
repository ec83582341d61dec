use Rattle.lost.proofs.FrameLossLemmas.{loss_recovered}
use Rattle.lost.proofs.laws.loss_is_recovered.Goals as goal

pub returns : goal.returns
returns c = loss_recovered
