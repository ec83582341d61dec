use Rattle.std.proofs.Common.{◌-◌, List, length}
use Rattle.cue_lists.specs.declared.cue.Cue.{Cue}
use Rattle.xds_frames.specs.Loads.{StandsAt}
use Rattle.xds_frames.proofs.loads.Loads.has.Given as goal

-- the times that are over before the frame are passed
abbrev pub invariant-loop-self : goal.invariant-loop-self
invariant-loop-self l = (cues : List Cue) → StandsAt cues l.frame l.fn.self → StandsAt cues l.frame l.self

abbrev pub decreases-loop-self : goal.decreases-loop-self
decreases-loop-self l = length l.self.spans.items - l.self.next
