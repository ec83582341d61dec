use Rattle.dtvcc_screen.specs.Cores.{after_tick}
use Rattle.dtvcc_services.proofs.PassLemmas.{HaveBelow}
use Rattle.dtvcc_services.proofs.passing.tick_all.Given as goal

-- the services below the place know of the frame
abbrev pub invariant-loop-place : goal.invariant-loop-place
invariant-loop-place l = record { below : HaveBelow (after_tick l.clock) l.next l.seen l.place l.initial.members l.members }
