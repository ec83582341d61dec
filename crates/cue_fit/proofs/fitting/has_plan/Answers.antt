use Rattle.cue_fit.proofs.PlanLemmas.{crowded_has_none}
use Rattle.cue_fit.proofs.fitting.has_plan.Goals as goal
use Rattle.cue_fit.proofs.fitting.has_plan.Goals.{in-Ok, in-Err-NoRoom, in-Err-Memory}

pub returns : goal.returns
returns c =
    elim c.match-plan.branch [
      | in-Ok w ↦ rw w.result-is (record { ruled = c.in_default.ensures.judged; placed = w.in-Ok.ensures.0; placement = w.in-Ok.ensures.1 })
      | in-Err-NoRoom w ↦ rw w.result-is (crowded_has_none c.args.list.now _ (rw w.in-Err-NoRoom.field-0-is at w.in-Err-NoRoom.ensures))
      | in-Err-Memory w ↦ rw w.result-is tt
    ]
