use Rattle.frame_scheduler.specs.ServicePlans.{AreServices}
use Rattle.frame_scheduler.proofs.planning.placed_services.Given as goal

abbrev pub invariant-loop-service : goal.invariant-loop-service
invariant-loop-service l = AreServices l.list l.service l.services
