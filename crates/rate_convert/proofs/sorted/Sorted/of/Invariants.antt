use Rattle.std.proofs.Common.{take}
use Rattle.rate_convert.specs.SortedTriplets.{AreSorted}
use Rattle.rate_convert.proofs.sorted.Sorted.of.Given as goal

-- the first triplets are sorted
abbrev pub invariant-loop-triplet : goal.invariant-loop-triplet
invariant-loop-triplet l = AreSorted (take l.triplet-index l.triplets) l.sorted
