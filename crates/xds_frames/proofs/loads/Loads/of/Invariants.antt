use Rattle.std.proofs.Common.{◌≡◌, ◌++◌, drop, map}
use Rattle.cue_lists.specs.Channels.{cues_on}
use Rattle.line21_codes.specs.declared.channels.Chan.TheVariants.{Cc3}
use Rattle.xds_frames.specs.Loads.{span_of}
use Rattle.xds_frames.proofs.loads.Loads.of.Given as goal

-- the times so far, and of the cues that are left
abbrev pub invariant-loop-cue : goal.invariant-loop-cue
invariant-loop-cue l = map span_of (cues_on Cc3 l.cues) ≡ l.spans.items ++ map span_of (cues_on Cc3 (drop l.cue-index l.cues))
