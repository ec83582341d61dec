use Rattle.rate_convert.proofs.LawLemmas.{undelayed_fit}
use Rattle.rate_convert.proofs.laws.nothing_changes_without_delays.Goals as goal

pub returns : goal.returns
returns c = undelayed_fit
