use Rattle.fit_commands.proofs.VerdictLemmas.{fitted_accepted}
use Rattle.fit_commands.proofs.laws.fitted_is_accepted.Goals as goal

pub returns : goal.returns
returns c = fitted_accepted
