use Rattle.dual_plans.proofs.SecondPlacedLemmas.{second_told}
use Rattle.dual_plans.proofs.plan.plan_both.Goals as goal

pub returns-in-Err-NoRoom-place_second : goal.returns-in-Err-NoRoom-place_second
returns-in-Err-NoRoom-place_second c =
    rw c.in-Err-NoRoom-place_second.field-0-is
    (second_told c.args.first.now c.args.second.now c.in-Ok.placed c.in-Ok.ensures.placed c.requires c.in-Err-NoRoom-place_second.cue
    (rw c.in-Err-NoRoom-place_second.field-0-is at c.in-Err-NoRoom-place_second.ensures.fault))
