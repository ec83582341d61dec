use Rattle.line21_shown.proofs.SequenceLemmas.{authored_seen}
use Rattle.line21_shown.proofs.laws.authored_is_seen.Goals as goal

pub returns : goal.returns
returns c = authored_seen
