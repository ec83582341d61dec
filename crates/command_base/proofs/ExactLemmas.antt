-- Where no count of faults rose, a run answers what its command makes of the bytes, or Memory; and it answers for a count that rose.
use Rattle.std.proofs.Common.{◌≡◌, ◌⊎◌, inl, inr, refl, subst, ℕ, List, [], IfSome, Option, Some}
use Rattle.std.specs.Io.KnownBytes.{Keeps}
use Rattle.command_base.proofs.CountLemmas.{read_told, same_told, steady_told, write_told, side_kept}
use Rattle.command_base.specs.Counts.{IsReadOf, IsSideOf, TellsAllFaults}
use Rattle.command_base.specs.Ends.{Ends}
use Rattle.command_base.specs.declared.status.Status.{Status}
use Rattle.command_base.specs.declared.status.Status.TheVariants as status
use Rattle.command_base.specs.SideEnds.{SideEnds}
use Rattle.command_base.specs.Exact.{IsAnswered, IsFault}
use Rattle.command_base.specs.Realises.{IsFaultless, OfBytes, PutsSaid, Realises}

-- what holds of told bytes, of those that they are
of_bytes : (Holds : List ℕ → List ℕ → Type 0) (aside input : List ℕ) (side : SideEnds) (old : Ends) → side.left ≡ Some aside → old.left ≡ Some input
    → OfBytes side old Holds → Holds aside input
of_bytes Holds aside input side old one other holds =
    subst (λ (l : Option (List ℕ)). IfSome l (λ i. Holds aside i)) other
    (subst (λ (l : Option (List ℕ)). IfSome l (λ a. IfSome old.left (λ i. Holds a i))) one holds)

faultless_told : (side later : SideEnds) (old new : Ends) (answer : Status) → IsFaultless side later old new → TellsAllFaults side later old new answer
faultless_told side later old new answer is = (side_kept side later answer is.aside, steady_told old new answer is.reads is.writes)

module _ (Says : List ℕ → List ℕ → Status → List ℕ → Type 0) where
  pub answered : (aside input : List ℕ) (side later : SideEnds) (old new : Ends) (answer : Status) → IsSideOf aside side later → IsReadOf input old new
      → Realises Says side later old new answer → IsAnswered Says aside input old new answer
  answered aside input side later old new status.Ok side_is read is =
      inr (λ fault. fault, (of_bytes (λ a i. (new.left ≡ Some []) × PutsSaid Says a i old new status.Ok) aside input side old side_is.left read.left is.2).1)
  answered aside input side later old new status.Usage side_is read is = absurd is
  answered aside input side later old new status.ReadFault side_is read (inl is) = absurd (side_is.faults is.0)
  answered aside input side later old new status.ReadFault side_is read (inr is) = absurd (read.reads is.1)
  answered aside input side later old new status.WriteFault side_is read is = absurd (read.writes is.2)
  answered aside input side later old new status.Memory side_is read is = inl (refl, is.2.1)
  answered aside input side later old new answer side_is read is =
      inr (λ fault. fault, of_bytes (λ a i. PutsSaid Says a i old new answer) aside input side old side_is.left read.left is.1)

  -- so it answers the one status that the command makes of them
  pub exact : ((aside input : List ℕ) (one other : Status) (text more : List ℕ) → (IsFault one → ⊥) → (IsFault other → ⊥) → Says aside input one text → Says aside input other more
      → one ≡ other)
      → (aside input : List ℕ) (verdict : Status) (text : List ℕ) (side later : SideEnds) (old new : Ends) (answer : Status) → (IsFault verdict → ⊥) → Says aside input verdict text
      → IsSideOf aside side later → IsReadOf input old new → Realises Says side later old new answer
      → ((answer ≡ status.Memory) × Keeps old.written new.written) ⊎ ((answer ≡ verdict) × PutsSaid Says aside input old new verdict)
  exact one aside input verdict text side later old new answer plain says side_is read is = at (answered aside input side later old new answer side_is read is)
    where
      at : IsAnswered Says aside input old new answer
          → ((answer ≡ status.Memory) × Keeps old.written new.written) ⊎ ((answer ≡ verdict) × PutsSaid Says aside input old new verdict)
      at (inl memory) = inl memory
      at (inr (told, (out, said, put))) =
          let same = one aside input answer verdict out text told plain said says in
          inr (same, (out, subst (λ s. Says aside input s out) same said, put))

  pub told : (side later : SideEnds) (old new : Ends) (answer : Status) → Realises Says side later old new answer → TellsAllFaults side later old new answer
  told side later old new status.Ok is = faultless_told side later old new status.Ok is.1
  told side later old new status.Usage is = absurd is
  told side later old new status.ReadFault (inl is) = (λ rose. refl, same_told old new status.ReadFault is.2)
  told side later old new status.ReadFault (inr is) = (λ rose. refl, read_told old new is.2)
  told side later old new status.WriteFault is = (side_kept side later _ is.0, write_told old new is.1)
  told side later old new status.Memory is = (side_kept side later _ is.0, steady_told old new status.Memory is.1 is.2.0)
  told side later old new answer is = faultless_told side later old new answer is.0
