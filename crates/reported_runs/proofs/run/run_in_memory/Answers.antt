use Rattle.reported_runs.proofs.MemoryLemmas.{ran}
use Rattle.reported_runs.proofs.run.run_in_memory.Goals as goal

pub returns : goal.returns
returns c =
    ran c.args.command _ _ _ c.new-source.ensures c.new-file.ensures c.in-Ok.ensures.bytes c.in-Ok.ensures.faults c.bytes.ensures
    c.perform-status.ensures.answer c.finish.ensures
