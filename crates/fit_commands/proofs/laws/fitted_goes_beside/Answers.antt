use Rattle.fit_commands.proofs.GoesBesideLemmas.{goes_beside}
use Rattle.fit_commands.proofs.laws.fitted_goes_beside.Goals as goal

pub returns : goal.returns
returns c = goes_beside
