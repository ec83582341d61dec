use Rattle.std.proofs.Common.{ℕ, ◌<◌, ◌≤◌, reverse}
use Rattle.cue_fit.specs.Fitted.{MayShow}
use Rattle.cue_fit.proofs.fitting.first_show.Given as goal

-- the cue may be shown in none of the frames so far
abbrev pub invariant-loop-show : goal.invariant-loop-show
invariant-loop-show l = (frame : ℕ) → l.cue.show ≤ frame → frame < l.show → MayShow l.list (reverse l.earlier) l.cue frame → ⊥
