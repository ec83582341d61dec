use Rattle.std.proofs.Common.{◌≡◌, Err, rules}
use Rattle.dual_plans.proofs.FirstPlacedLemmas.{fields_refused, services_refused}
use Rattle.dual_plans.proofs.plan.place_first.Goals as goal

pub returns-in_err-services-in-Ok-clause-fault : goal.returns-in_err-services-in-Ok-clause-fault
returns-in_err-services-in-Ok-clause-fault c =
    let answer : c.from_residual.result ≡ Err c.in_err-services-in-Ok.field-0.0 = search rules in
    rw answer
    (services_refused c.args.first.now c.args.second.now c.requires.formed c.requires.ruled c.in_err-services-in-Ok.field-0.0 c.in-Ok.one c.in-Ok.two
    c.in-Ok.ensures.started c.in_err-services-in-Ok.ensures.services)

pub returns-in-Err-clause-fault : goal.returns-in-Err-clause-fault
returns-in-Err-clause-fault c =
    rw c.fault_beside.ensures
    (fields_refused c.args.first.now c.args.second.now c.requires.formed c.requires.ruled c.in-Err.fault c.placed_services-services.result c.err.result
    c.in-Err.ensures.fault c.placed_services-services.ensures.services c.err.ensures.value)
