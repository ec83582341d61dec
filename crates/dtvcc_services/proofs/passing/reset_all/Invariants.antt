use Rattle.std.proofs.Common.{ℕ}
use Rattle.dtvcc_screen.specs.Cores.{clean}
use Rattle.dtvcc_services.proofs.PassLemmas.{HaveBelow}
use Rattle.dtvcc_services.proofs.passing.reset_all.Given as goal

-- the services below the place are reset
abbrev pub invariant-loop-place : goal.invariant-loop-place
invariant-loop-place l = record { below : (next : ℕ) → HaveBelow (λ state. clean) next l.seen l.place l.initial.members l.members }
