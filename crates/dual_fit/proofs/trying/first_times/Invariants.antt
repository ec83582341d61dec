use Rattle.std.proofs.Common.{◌<◌, ◌≤◌, reverse}
use Rattle.dual_fit.specs.FittedBeside.{MayStand}
use Rattle.dual_fit.specs.declared.times.Times.{Times}
use Rattle.dual_fit.proofs.trying.first_times.Given as goal

-- with none of the SHOWs so far any HIDE does
abbrev pub invariant-loop-show : goal.invariant-loop-show
invariant-loop-show l = (times : Times) → l.cue.show ≤ times.show → times.show < l.show
    → MayStand l.late l.first l.second l.takes (reverse l.earlier) l.cue times → ⊥
