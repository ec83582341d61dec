use Rattle.std.proofs.Common.{sym, subst}
use Rattle.std.specs.Prelude.{All}
use Rattle.dtvcc_author.specs.CueUnits.{IsWritable}
use Rattle.dtvcc_author.specs.WindowCommands.{run_commands}
use Rattle.dtvcc_author.proofs.commands.push_runs.Goals as goal

pub push_run-requires : goal.push_run-requires
push_run-requires c =
    subst (λ run. All IsWritable (run_commands c.args.coloured c.args.pen c.args.colors run)) (sym c.run-item.is)
    (c.requires c.loop-run.run-index c.run-item.result c.loop-run-test.true)
