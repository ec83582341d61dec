use Rattle.ccsuite_cli.proofs.VerdictLemmas.{every_input}
use Rattle.ccsuite_cli.proofs.laws.every_input_has_verdict.Goals as goal

pub returns : goal.returns
returns c = every_input
