use Rattle.xds_commands.proofs.VerdictLemmas.{refused_once}
use Rattle.xds_commands.proofs.laws.refusal_is_one.Goals as goal

pub returns : goal.returns
returns c = refused_once
