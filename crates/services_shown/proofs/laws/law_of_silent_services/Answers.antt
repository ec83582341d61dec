use Rattle.services_shown.proofs.LaneLemmas.{high_unshared}
use Rattle.services_shown.proofs.RoomLemmas.{unshared_silent}
use Rattle.services_shown.proofs.laws.law_of_silent_services.Goals as goal

pub returns-clause-silent : goal.returns-clause-silent
returns-clause-silent c = unshared_silent

pub returns-clause-unshared : goal.returns-clause-unshared
returns-clause-unshared c = high_unshared
