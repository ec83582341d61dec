use Rattle.std.proofs.Common.{◌≡◌, ◌++◌, drop}
use Rattle.line21_author.specs.CueSlots.{cues_in_slots}
use Rattle.line21_author.specs.Channels.{cues_on}
use Rattle.line21_author.specs.CueEvents.{hide_events, cue_events}
use Rattle.line21_author.proofs.event.events.Given as goal

-- the events so far, with those from the last cue's HIDE on, are the channel's
abbrev pub invariant-loop-cue : goal.invariant-loop-cue
invariant-loop-cue l =
    l.events.items
    ++ (hide_events l.in_field l.hide (cues_on l.channel (cues_in_slots l.cadence (drop l.cue-index l.cues)))
    ++ cue_events l.in_field (cues_on l.channel (cues_in_slots l.cadence (drop l.cue-index l.cues))))
    ≡ cue_events l.in_field (cues_on l.channel (cues_in_slots l.cadence l.cues))
