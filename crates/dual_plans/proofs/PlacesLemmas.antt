-- Lanes that are placed by the tables of their slots.
use Rattle.std.proofs.Common.{ℕ, ◌+◌, List, [], ◌∷◌, Option, All}
use Rattle.std.specs.Prelude.{IfErr, IfOk, Result, Ok, Err, Vec}
use Rattle.std.specs.Global.{Global}
use Rattle.lanes.specs.declared.planning.PlanFault.{PlanFault}
use Rattle.lanes.specs.declared.planning.PlanFault.TheVariants.{Memory, NoRoom}
use Rattle.dual_fields.specs.Agreeing.{Agree, EndsBy}
use Rattle.dual_fields.specs.Filled.{IsFault, IsFilled, resumes_at, slots_at}
use Rattle.dual_fields.specs.Parts.{part_slots}
use Rattle.dual_fields.specs.ResumedLane.{Stand}
use Rattle.dual_fields.specs.Slots.{Slots, slots_in}
use Rattle.dual_fields.specs.Spans.{GoOn}
use Rattle.dual_fields.specs.declared.part.Part.{Part}
use Rattle.dual_fields.specs.declared.place.Place.{Place}
use Rattle.dual_fields.specs.declared.slot_use.SlotUse.{SlotUse}
use Rattle.dual_fields.proofs.AgreeingLemmas.{agreeing_one}

module _ (count : ℕ) (slots : Slots) (uses : List SlotUse) (parts : List Part) (agree : Agree count slots (slots_in uses)) (ends : All (EndsBy count) parts) where
  -- what is filled by a table is filled in the slots that it lists
  pub filled_so : (places : List Place) → IsFilled (slots_in uses) parts places → IsFilled slots parts places
  filled_so places is =
      let one = agreeing_one count slots (slots_in uses) agree parts ends in
      record {
        earliest = (one.earliest (slots_at places)).1 is.earliest;
        stand = (one.stand 0 (slots_at places) (resumes_at places)).1 is.stand;
      }

  -- and what isn't has the same fault
  pub fault_so : (fault : PlanFault) → IsFault (slots_in uses) parts fault → IsFault slots parts fault
  fault_so (Memory error) is = tt
  fault_so (NoRoom cue) is = ((agreeing_one count slots (slots_in uses) agree parts ends).crowded cue).1 is

  pub filled_result : (result : Result (Vec Place Global) PlanFault) → IfOk result (λ places. IsFilled (slots_in uses) parts places.items)
      → IfOk result (λ places. IsFilled slots parts places.items)
  filled_result (Ok places) is = filled_so places.items is
  filled_result (Err fault) is = tt

  pub fault_result : (result : Result (Vec Place Global) PlanFault) → IfErr result (IsFault (slots_in uses) parts) → IfErr result (IsFault slots parts)
  fault_result (Ok places) is = tt
  fault_result (Err fault) is = fault_so fault is

-- units that stand go on
pub go_on : (slots : Slots) (end : ℕ) (parts : List Part) (fs : List ℕ) (rs : List (Option ℕ)) → Stand slots end parts fs rs → GoOn end parts fs
go_on slots end [] fs rs stand = tt
go_on slots end (part ∷ parts) [] rs stand = tt
go_on slots end (part ∷ parts) (f ∷ fs) [] stand = absurd stand
go_on slots end (part ∷ parts) (f ∷ fs) (r ∷ rs) stand = (stand.0.behind, go_on slots (f + part_slots part) parts fs rs stand.2)
