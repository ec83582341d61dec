use Rattle.scc_commands.proofs.ImportLemmas.{fault_refused}
use Rattle.scc_commands.proofs.import.judge.Goals as goal

pub returns-in-Ok : goal.returns-in-Ok
returns-in-Ok c = record { within = c.requires; file = c.in-Ok.ensures.file.0; few = c.in-Ok.ensures.file.1 }

pub returns-in-Err : goal.returns-in-Err
returns-in-Err c = rw c.status_of.ensures (fault_refused c.args.opening c.args.bytes.now c.in-Err.fault c.requires c.in-Err.ensures.file)
