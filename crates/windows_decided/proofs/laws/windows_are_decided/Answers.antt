use Rattle.windows_decided.proofs.SeenLemmas.{windows_decided}
use Rattle.windows_decided.proofs.laws.windows_are_decided.Goals as goal

pub returns : goal.returns
returns c = windows_decided
