use Rattle.std.proofs.Common.{ℕ, ◌-◌, ◌<◌, ◌≤◌}
use Rattle.dual_fields.specs.ResumedLane.{IsAllowedBeside}
use Rattle.dual_fields.specs.Slots.{slots_in}
use Rattle.dual_fields.specs.Waiting.{Describes}
use Rattle.dual_fields.proofs.place.first_from.Given as goal

abbrev pub invariant-loop-slot : goal.invariant-loop-slot
invariant-loop-slot l = record {
  from : l.end ≤ l.slot;
  none : (n : ℕ) → l.end ≤ n → n < l.slot → IsAllowedBeside (slots_in l.uses) l.end l.part n → ⊥;
  describes : Describes (slots_in l.uses) l.end l.slot l.resume;
}

abbrev pub decreases-loop-slot : goal.decreases-loop-slot
decreases-loop-slot l = l.part.chunk.until - l.slot
