use Rattle.dual_fit.proofs.TogetherLemmas.{fault_apart}
use Rattle.dual_fit.proofs.trying.stand_together.Goals as goal
use Rattle.dual_fit.proofs.trying.stand_together.Goals.{in-Ok, in-Err-plan_dual+in-Memory, in-Err-plan_dual+in_default-fault}

pub returns : goal.returns
returns c =
    elim c.match-plan_dual.branch [
      | in-Ok w ↦ rw w.result-is (record { together = w.in-Ok.ensures.together; placed = w.in-Ok.ensures.placed; placement = w.in-Ok.ensures.placed_is })
      | in-Err-plan_dual+in-Memory w ↦ rw w.result-is tt
      | in-Err-plan_dual+in_default-fault w ↦ rw w.result-is
          (fault_apart c.args.first.now c.args.second.now w.in-Err-plan_dual.fault w.in-Err-plan_dual.ensures w.in_default-fault.not-Memory)
    ]
