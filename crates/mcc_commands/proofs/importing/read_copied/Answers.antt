use Rattle.mcc_commands.proofs.importing.read_copied.Goals as goal

pub returns : goal.returns
returns c before placed was lines = c.read_line.ensures before placed (c.copied.ensures before placed was) lines
