use Rattle.xds_commands.proofs.VerdictLemmas.{accepted_not_refused}
use Rattle.xds_commands.proofs.laws.accepted_is_not_refused.Goals as goal

pub returns : goal.returns
returns c = accepted_not_refused
