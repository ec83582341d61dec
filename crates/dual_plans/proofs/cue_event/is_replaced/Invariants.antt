use Rattle.std.proofs.Common.{◌≡◌, drop}
use Rattle.line21_author.specs.Channels.{cues_on}
use Rattle.line21_author.specs.CueEvents.{is_replaced_at}
use Rattle.line21_author.specs.CueSlots.{cues_in_slots}
use Rattle.dual_plans.proofs.cue_event.is_replaced.Given as goal

-- no cue so far is on the channel
abbrev pub invariant-loop-next : goal.invariant-loop-next
invariant-loop-next l = is_replaced_at l.slot (cues_on l.channel (cues_in_slots l.cadence (drop l.next-index l.later)))
    ≡ is_replaced_at l.slot (cues_on l.channel (cues_in_slots l.cadence l.later))
