use Rattle.ccsuite_cli.proofs.VerdictLemmas.{faults_told}
use Rattle.ccsuite_cli.proofs.laws.faults_are_told.Goals as goal

pub returns : goal.returns
returns c = faults_told
