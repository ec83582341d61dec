use Rattle.std.proofs.Common.{length}
use Rattle.mcc_commands.proofs.HearLemmas.{HeardFront}
use Rattle.mcc_commands.proofs.hearing.Hearer.hear.Given as goal

abbrev pub invariant-loop-rest : goal.invariant-loop-rest
invariant-loop-rest l = HeardFront l.words l.rest l.fn.self l.self

abbrev pub decreases-loop-rest : goal.decreases-loop-rest
decreases-loop-rest l = length l.rest
