use Rattle.rate_convert.proofs.DelayedLemmas.{delayed_same}
use Rattle.rate_convert.proofs.halved_laws.law_of_shown_delays.Goals as goal

pub returns : goal.returns
returns c = delayed_same
