use Rattle.grid_print.proofs.WindowRunsOfLemmas.{runs_are_stretches}
use Rattle.grid_print.proofs.window_laws.runs_are_the_longest_stretches.Goals as goal

pub returns : goal.returns
returns c = runs_are_stretches
