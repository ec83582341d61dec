use Rattle.fit_commands.proofs.AcceptedLemmas.{accepted_fitted}
use Rattle.fit_commands.proofs.laws.accepted_is_fitted.Goals as goal

pub returns : goal.returns
returns c = accepted_fitted
