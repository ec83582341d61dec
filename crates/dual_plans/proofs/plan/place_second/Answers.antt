use Rattle.std.proofs.Common.{◌≡◌, Err, rules}
use Rattle.dual_plans.proofs.SecondPlacedLemmas.{one_refused_beside, two_refused_beside}
use Rattle.dual_plans.proofs.plan.place_second.Goals as goal

pub returns-in_err-two-in-Ok-clause-fault : goal.returns-in_err-two-in-Ok-clause-fault
returns-in_err-two-in-Ok-clause-fault c =
    let answer : c.from_residual.result ≡ Err c.in_err-two-in-Ok.field-0.0 = search rules in
    rw answer
    (two_refused_beside c.args.first.now c.args.second.now c.args.placed.now c.requires.placed c.in_err-two-in-Ok.field-0.0 c.in-Ok.one c.in-Ok.ensures.filled
    c.in_err-two-in-Ok.ensures.fault)

pub returns-in-Err-clause-fault : goal.returns-in-Err-clause-fault
returns-in-Err-clause-fault c =
    rw c.fault_beside.ensures
    (one_refused_beside c.args.first.now c.args.second.now c.args.placed.now c.requires.placed c.in-Err.fault c.second_field-two.result c.err.result
    c.in-Err.ensures.fault c.second_field-two.ensures.filled c.second_field-two.ensures.fault c.err.ensures.value)
