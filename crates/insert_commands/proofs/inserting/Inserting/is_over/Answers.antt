use Rattle.std.proofs.Common.{length}
use Rattle.insert_commands.proofs.inserting.Inserting.is_over.Goals as goal

pub returns : goal.returns
returns c list bytes text had = c.is_over.ensures list (length had.says.frames) had.gives
