use Rattle.std.proofs.Common.{◌≡◌, ◌+◌, ◌++◌, drop}
use Rattle.line21_author.specs.CueSlots.{cues_in_slots}
use Rattle.lanes.specs.ChannelLane.{channel_chunks, channel_chunks_from}
use Rattle.lanes.proofs.field_cues.channel_chunks.Given as goal

-- the units of the cues so far, and of the cues to come
abbrev pub invariant-loop-index : goal.invariant-loop-index
invariant-loop-index l = l.chunks.items ++ channel_chunks_from l.channel (l.index + 1) (cues_in_slots l.cadence (drop l.index l.cues))
    ≡ channel_chunks l.channel (cues_in_slots l.cadence l.cues)
