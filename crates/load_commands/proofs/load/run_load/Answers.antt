use Rattle.std.proofs.Common.{refl}
use Rattle.command_base.proofs.RealisedLemmas.{no_memory}
use Rattle.load_commands.specs.LoadVerdict.{LoadVerdict}
use Rattle.load_commands.proofs.VerdictLemmas.{load_done, load_failed}
use Rattle.load_commands.proofs.load.run_load.Goals as goal

pub returns-in_default : goal.returns-in_default
returns-in_default g c reads = no_memory (LoadVerdict c.args.count) _ _ refl

pub returns-in-Done : goal.returns-in-Done
returns-in-Done g c reads = load_done c.args.count reads _ _ _ _ c.in-Ok.summary c.in-Ok.ensures c.in-Done.ensures.bytes c.in-Done.ensures.cause

pub returns-in-Failed : goal.returns-in-Failed
returns-in-Failed g c reads = load_failed c.args.count reads _ _ _ _ c.in-Ok.summary c.in-Ok.ensures c.in-Failed.ensures.bytes c.in-Failed.ensures.cause.1
