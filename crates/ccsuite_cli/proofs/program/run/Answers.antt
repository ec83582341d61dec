use Rattle.ccsuite_cli.proofs.LineLemmas.{line_put}
use Rattle.ccsuite_cli.proofs.program.run.Goals as goal

pub returns-clause-line : goal.returns-clause-line
returns-clause-line g c = line_put _ _ _ _ c.put_status.result _ c.put_status.ensures.bytes c.put_status.ensures.cause
