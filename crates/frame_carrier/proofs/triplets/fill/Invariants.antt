use Rattle.std.proofs.Common.{◌≡◌, ◌-◌, ◌++◌, length, replicate}
use Rattle.cc_data.specs.Triplets.{filler}
use Rattle.frame_carrier.proofs.triplets.fill.Given as goal

-- what is appended so far and what is to come
abbrev pub invariant-loop-triplets : goal.invariant-loop-triplets
invariant-loop-triplets l = l.triplets.items ++ replicate (l.number - length l.triplets.items) filler
    ≡ l.initial.triplets.items ++ replicate (l.number - length l.initial.triplets.items) filler

abbrev pub decreases-loop-triplets : goal.decreases-loop-triplets
decreases-loop-triplets l = l.number - length l.triplets.items
