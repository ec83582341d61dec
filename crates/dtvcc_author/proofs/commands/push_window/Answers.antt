use Rattle.std.proofs.Common.{false, sym, subst}
use Rattle.std.specs.Prelude.{All}
use Rattle.dtvcc_author.specs.CueUnits.{IsWritable}
use Rattle.dtvcc_author.specs.WindowCommands.{run_commands}
use Rattle.dtvcc_author.proofs.WritableLemmas.{window_parts}
use Rattle.dtvcc_author.proofs.commands.push_window.Goals as goal

pub push_command-requires : goal.push_command-requires
push_command-requires c =
    rw c.definition_of.ensures (window_parts c.args.window c.args.runs.now false c.requires.window c.requires.runs).definition

pub push_attributes-requires : goal.push_attributes-requires
push_attributes-requires c = (window_parts c.args.window c.args.runs.now false c.requires.window c.requires.runs).attributes

pub push_runs-requires : goal.push_runs-requires
push_runs-requires c =
    let coloured = c.are_coloured-coloured.result in
    subst (λ style. All (λ run. All IsWritable (run_commands coloured style.0 style.1 run)) c.args.runs.now) (sym c.pen_style.ensures)
    (window_parts c.args.window c.args.runs.now coloured c.requires.window c.requires.runs).each_run
