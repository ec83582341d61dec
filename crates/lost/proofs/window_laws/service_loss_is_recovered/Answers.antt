use Rattle.lost.proofs.WindowLossLemmas.{service_loss_recovered}
use Rattle.lost.proofs.window_laws.service_loss_is_recovered.Goals as goal

pub returns : goal.returns
returns c = service_loss_recovered
