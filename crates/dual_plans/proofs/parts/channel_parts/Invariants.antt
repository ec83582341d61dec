use Rattle.std.proofs.Common.{◌≡◌, ◌+◌, ◌++◌, drop}
use Rattle.line21_author.specs.CueSlots.{cues_in_slots}
use Rattle.dual_fields.specs.ChannelParts.{channel_parts, parts_from}
use Rattle.dual_plans.proofs.parts.channel_parts.Given as goal

-- the units of the cues so far, and of the cues to come
abbrev pub invariant-loop-index : goal.invariant-loop-index
invariant-loop-index l = l.parts.items ++ parts_from l.channel (l.index + 1) (cues_in_slots l.cadence (drop l.index l.cues))
    ≡ channel_parts l.channel (cues_in_slots l.cadence l.cues)
