use Rattle.fit_commands.proofs.VerdictLemmas.{not_refused}
use Rattle.fit_commands.proofs.laws.fitted_is_not_refused.Goals as goal

pub returns : goal.returns
returns c = not_refused
