use Rattle.std.proofs.Common.{rules}
use Rattle.dual_plans.specs.ListLanes.{IsFirstLane}
use Rattle.dual_plans.proofs.ListLaneLemmas.{first_within, first_writable}
use Rattle.dual_plans.proofs.list_lane.first_lane.Goals as goal

pub returns-clause-within : goal.returns-clause-within
returns-clause-within c =
    let is : IsFirstLane c.args.list.now c.args.channel (record { parts = c.in_ok-channel_parts.field-0; events = c.in_ok-events.field-0 }) = search rules in
    first_within c.args.list.now c.cues.ensures.formed c.requires c.args.channel (record { parts = c.in_ok-channel_parts.field-0; events = c.in_ok-events.field-0 }) is

pub returns-clause-writable : goal.returns-clause-writable
returns-clause-writable c =
    let is : IsFirstLane c.args.list.now c.args.channel (record { parts = c.in_ok-channel_parts.field-0; events = c.in_ok-events.field-0 }) = search rules in
    first_writable c.args.list.now c.cues.ensures.formed c.requires c.args.channel (record { parts = c.in_ok-channel_parts.field-0; events = c.in_ok-events.field-0 }) is
