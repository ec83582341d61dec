use Rattle.services_shown.proofs.LaneLemmas.{services_told}
use Rattle.services_shown.proofs.laws.law_of_services_told.Goals as goal

pub returns : goal.returns
returns c = services_told
