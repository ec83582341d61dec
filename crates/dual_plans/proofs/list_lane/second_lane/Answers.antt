use Rattle.std.proofs.Common.{rules}
use Rattle.dual_plans.specs.ListLanes.{IsSecondLane}
use Rattle.dual_plans.proofs.ListLaneLemmas.{second_within}
use Rattle.dual_plans.proofs.list_lane.second_lane.Goals as goal

pub returns-clause-within : goal.returns-clause-within
returns-clause-within c =
    let is : IsSecondLane c.args.list.now c.args.channel (record { parts = c.in_ok-second_parts.field-0; events = c.in_ok-second_events.field-0 }) = search rules in
    second_within c.args.list.now c.first_lane.ensures.formed c.requires c.args.channel (record { parts = c.in_ok-second_parts.field-0; events = c.in_ok-second_events.field-0 }) is
