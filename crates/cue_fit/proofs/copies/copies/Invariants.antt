use Rattle.std.proofs.Common.{◌≡◌, take}
use Rattle.cue_fit.proofs.copies.copies.Given as goal

-- the cues so far are copied
abbrev pub invariant-loop-cue : goal.invariant-loop-cue
invariant-loop-cue l = l.copies.items ≡ take l.cue-index l.cues
