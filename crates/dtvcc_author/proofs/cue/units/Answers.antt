use Rattle.std.proofs.Common.{◌∙◌, ◌++◌, ap}
use Rattle.dtvcc_author.specs.CueUnits.{window_cue_units}
use Rattle.dtvcc_author.specs.WindowCommands.{commands_of}
use Rattle.dtvcc_author.proofs.SpelledLemmas.{units_spelled}
use Rattle.dtvcc_author.proofs.WritableLemmas.{commands_writable}
use Rattle.dtvcc_author.proofs.cue.units.Goals as goal

-- every command of the cue can be written, so what is written of them spells them
pub returns-clause-spelled : goal.returns-clause-spelled
returns-clause-spelled c =
    units_spelled (commands_of c.args.cue.now) c.in_ok-units.units (commands_writable c.args.cue.now c.requires)
    (c.in_ok-units.ensures ∙ c.in_ok-push_units.ensures ∙ ap (λ l. l ++ window_cue_units c.args.cue.now) c.new-packed.ensures)
