use Rattle.std.proofs.Common.{◌≡◌, take}
use Rattle.dual_plans.specs.SecondChannel.{second_events}
use Rattle.dual_plans.proofs.second_channel.second_events.Given as goal

abbrev pub invariant-loop-event : goal.invariant-loop-event
invariant-loop-event l = l.seconds.items ≡ second_events l.in_field (take l.event-index l.events)
