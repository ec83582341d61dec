use Rattle.std.proofs.Common.{sym, subst}
use Rattle.std.specs.Prelude.{All, Some}
use Rattle.dtvcc_codes.specs.declared.commands.Command.TheVariants.{Put, Spa}
use Rattle.dtvcc_author.specs.CueUnits.{IsWritable}
use Rattle.dtvcc_author.proofs.WritableLemmas.{run_parts}
use Rattle.dtvcc_author.proofs.commands.push_run.Goals as goal

pub push_command-requires : goal.push_command-requires
push_command-requires c = (run_parts c.args.coloured c.args.pen c.args.colors c.args.run.now c.requires).to_place

pub push_command-requires-2 : goal.push_command-requires-2
push_command-requires-2 c =
    subst (λ pen. IsWritable (Spa pen)) (sym c.pen_of.ensures)
    (run_parts c.args.coloured c.args.pen c.args.colors c.args.run.now c.requires).to_pen

pub push_colors-requires : goal.push_colors-requires
push_colors-requires c = (run_parts c.args.coloured c.args.pen c.args.colors c.args.run.now c.requires).to_colors

pub push_characters-requires : goal.push_characters-requires
push_characters-requires c =
    subst (All (λ ch. IsWritable (Put (Some ch)))) (sym c.as_slice.ensures)
    (run_parts c.args.coloured c.args.pen c.args.colors c.args.run.now c.requires).characters
