use Rattle.std.proofs.Common.{◌+◌, ◌-◌, length}
use Rattle.dual_plans.proofs.ClashLemmas.{LeftAt}
use Rattle.dual_plans.proofs.clash.first_clash.Given as goal

-- what is left of both lists has the same clashes
abbrev pub invariant-loop-index : goal.invariant-loop-index
invariant-loop-index l = LeftAt l.firsts l.seconds l.index l.other

abbrev pub decreases-loop-index : goal.decreases-loop-index
decreases-loop-index l = (length l.firsts - l.index) + (length l.seconds - l.other)
