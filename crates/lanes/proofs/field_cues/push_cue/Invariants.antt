use Rattle.std.proofs.Common.{◌≡◌, ◌++◌, drop, map}
use Rattle.line21_author.specs.CueSlots.{timed_in_slots}
use Rattle.line21_author.specs.declared.unit.Unit.{Unit}
use Rattle.lanes.specs.ChannelLane.{field_cue_chunks}
use Rattle.lanes.proofs.field_cues.push_cue.Given as goal

-- the units so far, and those to come
abbrev pub invariant-loop-unit : goal.invariant-loop-unit
invariant-loop-unit l =
    l.chunks.items ++ map (λ (unit : Unit). record { unit = unit; load = l.load; until = l.until; cue = l.number }) (drop l.unit-index l.unit-items)
    ≡ l.initial.chunks.items ++ field_cue_chunks l.number (timed_in_slots l.fn.cadence l.cue)
