use Rattle.std.proofs.Common.{ℕ, ◌<◌, Some, reverse}
use Rattle.dual_fit.specs.FittedBeside.{MayStand}
use Rattle.dual_fit.proofs.trying.least_hide.Given as goal

-- none of the HIDEs so far does
abbrev pub invariant-loop-hide : goal.invariant-loop-hide
invariant-loop-hide l = (hide : ℕ) → hide < l.hide
    → MayStand l.late l.first l.second l.takes (reverse l.earlier) l.cue (record { show = l.show; hide = Some hide }) → ⊥
