use Rattle.services_shown.proofs.ToldLemmas.{columns_told}
use Rattle.services_shown.proofs.laws.law_of_columns_told.Goals as goal

pub returns : goal.returns
returns c = columns_told
