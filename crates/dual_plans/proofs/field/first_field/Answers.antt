use Rattle.dual_plans.proofs.DualLemmas.{first_fault}
use Rattle.dual_plans.proofs.field.first_field.Goals as goal

pub returns-in-Err-first_places-clause-fault : goal.returns-in-Err-first_places-clause-fault
returns-in-Err-first_places-clause-fault c =
    first_fault c.args.first.now c.args.second.now c.args.channel c.in-Ok.lane c.in-Ok-second_lane.lane c.in-Ok.ensures.lane c.in-Ok-second_lane.ensures.lane
    c.in-Err-first_places.fault c.in-Err-first_places.ensures.fault
