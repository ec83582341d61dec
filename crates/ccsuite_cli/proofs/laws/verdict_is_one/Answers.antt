use Rattle.ccsuite_cli.proofs.VerdictLemmas.{verdict_one}
use Rattle.ccsuite_cli.proofs.laws.verdict_is_one.Goals as goal

pub returns : goal.returns
returns c = verdict_one
