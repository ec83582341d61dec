use Rattle.line21_screen.proofs.LawLemmas.{null_does_nothing}
use Rattle.line21_screen.proofs.laws.null_pairs_change_nothing.Goals as goal

pub returns : goal.returns
returns c = null_does_nothing
