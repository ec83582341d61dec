use Rattle.std.proofs.Common.{◌≡◌, Err, rules, ◌∙◌}
use Rattle.frame_scheduler.proofs.PlanLemmas.{all_planned, fields_refused, planned_fits, planned_numbered, planned_start, services_refused}
use Rattle.frame_scheduler.proofs.planning.plan.Goals as goal

pub new-requires-clause-at_first : goal.new-requires-clause-at_first
new-requires-clause-at_first c =
    planned_start c.args.list.now c.placed_services-services.ensures.formed c.requires c.in_ok-services-in-Ok.field-0.items c.in_ok-services-in-Ok.ensures.services

pub new-requires-clause-numbered : goal.new-requires-clause-numbered
new-requires-clause-numbered c =
    planned_numbered c.args.list.now c.placed_services-services.ensures.formed c.requires c.in_ok-services-in-Ok.field-0.items c.in_ok-services-in-Ok.ensures.services

pub new-requires-clause-room : goal.new-requires-clause-room
new-requires-clause-room c =
    planned_fits c.args.list.now c.placed_services-services.ensures.formed c.requires c.in_ok-services-in-Ok.field-0.items c.in_ok-services-in-Ok.ensures.services

pub returns-in_ok-services-in-Ok : goal.returns-in_ok-services-in-Ok
returns-in_ok-services-in-Ok c =
    all_planned c.args.list.now c.placed_services-services.ensures.formed c.requires c.in-Ok.one c.in-Ok.two c.in_ok-services-in-Ok.field-0.items c.new.result c.in-Ok.ensures.placed
    c.in_ok-services-in-Ok.ensures.services c.new.ensures.lanes c.new.ensures.services (c.new.ensures.rate ∙ c.rate.ensures) c.new.ensures.frame (c.new.ensures.left ∙ c.frames.ensures)

pub returns-in_err-services-in-Ok : goal.returns-in_err-services-in-Ok
returns-in_err-services-in-Ok c =
    let answer : c.from_residual.result ≡ Err c.in_err-services-in-Ok.field-0.0 = search rules in
    rw answer
    (services_refused c.args.list.now c.placed_services-services.ensures.formed c.requires c.in-Ok.one c.in-Ok.two c.in_err-services-in-Ok.field-0.0 c.in-Ok.ensures.placed
    c.in_err-services-in-Ok.ensures.services)

pub returns-in-Err : goal.returns-in-Err
returns-in-Err c =
    rw c.fault_beside.ensures
    (fields_refused c.args.list.now c.placed_services-services.ensures.formed c.requires c.in-Err.fault c.placed_services-services.result c.err.result c.in-Err.ensures.fault
    c.placed_services-services.ensures.services c.err.ensures.value)
