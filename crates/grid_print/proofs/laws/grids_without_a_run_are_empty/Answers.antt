use Rattle.grid_print.proofs.RunsOfLemmas.{empty_where}
use Rattle.grid_print.proofs.laws.grids_without_a_run_are_empty.Goals as goal

pub returns : goal.returns
returns c = empty_where
