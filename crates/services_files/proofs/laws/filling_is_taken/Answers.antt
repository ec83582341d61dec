use Rattle.services_files.proofs.FillingLemmas.{takes_filling}
use Rattle.services_files.proofs.laws.filling_is_taken.Goals as goal

pub returns : goal.returns
returns c = takes_filling
