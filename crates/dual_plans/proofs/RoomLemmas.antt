-- The first cue without room among the lanes of both fields, and of services.
use Rattle.std.proofs.Common.{◌≡◌, ◌<◌, inl, inr, ℕ, min, sym, subst, arith}
use Rattle.std.proofs.lemmas.Bool.{cases_lt}
use Rattle.line21_codes.specs.declared.channels.FieldNumber.{FieldNumber}
use Rattle.line21_codes.specs.declared.channels.FieldNumber.TheVariants.{One, Two}
use Rattle.lanes.specs.declared.planning.PlanFault.{PlanFault}
use Rattle.lanes.specs.declared.planning.PlanFault.TheVariants.{Memory, NoRoom}
use Rattle.frame_carrier.specs.LaneSets.{earlier_fault}
use Rattle.dual_plans.specs.FieldFaults.{IsFaultOf, IsFirstOfFields}

-- up to the cue a field has no room, and up to each earlier cue it has
pub record IsFirstOfField (Has : ℕ → Type 0) (cue : ℕ) : Type 0 where
  pub none : Has cue → ⊥
  pub first : (earlier : ℕ) → earlier < cue → Has earlier

module _ (Has : FieldNumber → ℕ → Type 0) where
  abbrev pub First : FieldNumber → ℕ → Type 0
  First in_field = IsFirstOfField (Has in_field)

  abbrev pub FirstOfBoth : ℕ → Type 0
  FirstOfBoth = IsFirstOfFields Has

  first_one : (cue : ℕ) → First One cue → ((earlier : ℕ) → earlier < cue → Has Two earlier) → FirstOfBoth cue
  first_one cue is other = record { none = (One, is.none); first = has }
    where
      has : (earlier : ℕ) → earlier < cue → (in_field : FieldNumber) → Has in_field earlier
      has earlier below One = is.first earlier below
      has earlier below Two = other earlier below

  first_two : (cue : ℕ) → First Two cue → ((earlier : ℕ) → earlier < cue → Has One earlier) → FirstOfBoth cue
  first_two cue is other = record { none = (Two, is.none); first = has }
    where
      has : (earlier : ℕ) → earlier < cue → (in_field : FieldNumber) → Has in_field earlier
      has earlier below One = other earlier below
      has earlier below Two = is.first earlier below

  -- a fault in one field beside the other, which has room
  pub fault_one : (fault : PlanFault) → IsFaultOf (First One) fault → ((cue : ℕ) → Has Two cue) → IsFaultOf FirstOfBoth fault
  fault_one (Memory error) is roomy = tt
  fault_one (NoRoom cue) is roomy = first_one cue is (λ earlier below. roomy earlier)

  pub fault_two : (fault : PlanFault) → IsFaultOf (First Two) fault → ((cue : ℕ) → Has One cue) → IsFaultOf FirstOfBoth fault
  fault_two (Memory error) is roomy = tt
  fault_two (NoRoom cue) is roomy = first_two cue is (λ earlier below. roomy earlier)

  -- and in both
  pub fault_both : (a b : PlanFault) → IsFaultOf (First One) a → IsFaultOf (First Two) b → IsFaultOf FirstOfBoth (earlier_fault a b)
  fault_both (Memory error) b one two = tt
  fault_both (NoRoom a) (Memory error) one two = tt
  fault_both (NoRoom a) (NoRoom b) one two =
      elim (cases_lt a b) [
        | inl less ↦ let is : min a b ≡ a = omega arith in
            subst FirstOfBoth (sym is) (first_one a one (λ earlier below. two.first earlier (omega arith)))
        | inr most ↦ let is : min a b ≡ b = omega arith in
            subst FirstOfBoth (sym is) (first_two b two (λ earlier below. one.first earlier (omega arith)))
      ]
