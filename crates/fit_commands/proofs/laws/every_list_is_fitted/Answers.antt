use Rattle.fit_commands.proofs.VerdictLemmas.{every_fitted}
use Rattle.fit_commands.proofs.laws.every_list_is_fitted.Goals as goal

pub returns : goal.returns
returns c = every_fitted
