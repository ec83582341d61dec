use Rattle.convert_commands.proofs.VerdictLemmas.{keeps_grids}
use Rattle.convert_commands.proofs.laws.conversion_keeps_grids.Goals as goal

pub returns : goal.returns
returns c = keeps_grids
