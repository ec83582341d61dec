use Rattle.std.proofs.Common.{refl}
use Rattle.mcc_commands.proofs.HearLemmas.{nothing_heard}
use Rattle.mcc_commands.proofs.hearing.Hearer.new.Goals as goal

pub returns : goal.returns
returns c = nothing_heard _ c.in_ok-new.ensures refl
