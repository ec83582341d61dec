use Rattle.services_shown.proofs.DelayLemmas.{delays_sent}
use Rattle.services_shown.proofs.laws.law_of_sent_delays.Goals as goal

pub returns : goal.returns
returns c = delays_sent
