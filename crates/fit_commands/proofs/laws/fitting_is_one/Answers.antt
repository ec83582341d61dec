use Rattle.fit_commands.proofs.VerdictLemmas.{fitted_once}
use Rattle.fit_commands.proofs.laws.fitting_is_one.Goals as goal

pub returns : goal.returns
returns c = fitted_once
