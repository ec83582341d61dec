use Rattle.std.proofs.Common.{◌≡◌, arith, rules}
use Rattle.std.proofs.lemmas.Grind.{common_steps}
use Rattle.line21_author.specs.CueSlots.{cues_in_slots}
use Rattle.line21_author.specs.CueEvents.{channel_events}
use Rattle.line21_author.proofs.CueEventsLemmas.{channel_events_control, channel_events_apart}
use Rattle.line21_author.proofs.event.events.Goals as goal

-- the events are the channel's, and so their pairs are control pairs
pub returns-clause-control : goal.returns-clause-control
returns-clause-control c =
    let is : c.push_last_hide.new.events.items ≡ channel_events c.args.channel (cues_in_slots c.args.cadence c.args.cues.now) =
    first_of (search rules, grind (arith, common_steps)) in
    channel_events_control c.args.channel (cues_in_slots c.args.cadence c.args.cues.now) c.push_last_hide.new.events.items is

-- and they are apart
pub returns-clause-apart : goal.returns-clause-apart
returns-clause-apart c =
    let is : c.push_last_hide.new.events.items ≡ channel_events c.args.channel (cues_in_slots c.args.cadence c.args.cues.now) =
    first_of (search rules, grind (arith, common_steps)) in
    channel_events_apart c.args.cadence c.args.channel c.args.cues.now c.push_last_hide.new.events.items is
