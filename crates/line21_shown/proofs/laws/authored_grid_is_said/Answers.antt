use Rattle.line21_shown.proofs.SentenceLemmas.{authored_said}
use Rattle.line21_shown.proofs.laws.authored_grid_is_said.Goals as goal

pub returns : goal.returns
returns c = authored_said
