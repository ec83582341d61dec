use Rattle.dtvcc_screen.proofs.LawLemmas.{fill_few, held_few}
use Rattle.dtvcc_screen.proofs.laws.few_bytes_are_held.Goals as goal

pub returns-clause-held : goal.returns-clause-held
returns-clause-held c = held_few

pub returns-clause-fill : goal.returns-clause-fill
returns-clause-fill c = fill_few
