use Rattle.ccsuite_cli.proofs.VerdictLemmas.{verdict_answered}
use Rattle.ccsuite_cli.proofs.laws.verdict_is_answered.Goals as goal

pub returns : goal.returns
returns c = verdict_answered
