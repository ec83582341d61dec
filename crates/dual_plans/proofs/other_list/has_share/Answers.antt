use Rattle.std.proofs.Common.{arith}
use Rattle.dual_plans.proofs.ShareLemmas.{none_shared}
use Rattle.dual_plans.proofs.other_list.has_share.Goals as goal

pub returns-clause-none : goal.returns-clause-none
returns-clause-none c =
    λ no. none_shared c.args.list.now c.cues-cues.ensures.formed c.requires (λ s least below. c.loop-service.invariant s least (omega (arith, below)))
