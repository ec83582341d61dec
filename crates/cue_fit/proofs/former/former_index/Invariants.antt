use Rattle.std.proofs.Common.{◌≤◌, drop, length}
use Rattle.cue_lists.specs.Lane.{kind_lane}
use Rattle.cue_fit.specs.Tries.{AreOff}
use Rattle.cue_fit.proofs.former.former_index.Given as goal

-- none of the cues from the index on is on the lane
abbrev pub invariant-loop-index : goal.invariant-loop-index
invariant-loop-index l = (l.index ≤ length l.cues) × AreOff (kind_lane l.kind) (drop l.index l.cues)

abbrev pub decreases-loop-index : goal.decreases-loop-index
decreases-loop-index l = l.index
