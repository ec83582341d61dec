use Rattle.std.proofs.Common.{◌≡◌, ◌+◌, ◌++◌, drop}
use Rattle.line21_author.specs.CueSlots.{cues_in_slots}
use Rattle.dual_plans.specs.CueEvents.{events_from}
use Rattle.dual_plans.proofs.cue_event.cue_events.Given as goal

-- the events of the cues so far, and of the cues to come
abbrev pub invariant-loop-index : goal.invariant-loop-index
invariant-loop-index l = l.events.items ++ events_from l.channel (l.index + 1) (cues_in_slots l.cadence (drop l.index l.cues))
    ≡ events_from l.channel 1 (cues_in_slots l.cadence l.cues)
