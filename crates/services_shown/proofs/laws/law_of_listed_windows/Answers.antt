use Rattle.services_shown.proofs.SeenLemmas.{authored_windows_seen}
use Rattle.services_shown.proofs.laws.law_of_listed_windows.Goals as goal

pub returns : goal.returns
returns c = authored_windows_seen
