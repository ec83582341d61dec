use Rattle.insert_commands.proofs.inserting.Inserting.frames.Goals as goal

pub returns : goal.returns
returns c list bytes text had = c.frames.ensures had.says.frames had.says.frames_are.file had.read
