-- How a run realises a verdict: what holds of bytes, and what is taken of them.
use Rattle.std.proofs.Common.{◌≡◌, ◌++◌, ap, inl, refl, subst, sym, ℕ, List, [], Option, Some, None}
use Rattle.std.specs.Prelude.{IfSome}
use Rattle.std.specs.Io.KnownBytes.{Appends, Consumes, Keeps}
use Rattle.std.proofs.KnownBytes.{Appends-kept, Appends-nil, Keeps-refl}
use Rattle.command_base.specs.Ends.{Ends}
use Rattle.command_base.specs.Realises.{IsFaultless, OfBytes, PutsSaid, Realises, RealisesBeside, RealisesLeaving, no_side}
use Rattle.command_base.specs.SideEnds.{SideEnds}
use Rattle.command_base.specs.declared.status.Status.{Status}
use Rattle.command_base.specs.declared.status.Status.TheVariants as status

-- what is said of told bytes leads to what else is said of them
pub if_told : (P Q : List ℕ → Type 0) (left : Option (List ℕ)) → ((bytes : List ℕ) → left ≡ Some bytes → P bytes → Q bytes) → IfSome left P → IfSome left Q
if_told P Q None each fact = tt
if_told P Q (Some bytes) each fact = each bytes refl fact

-- so two facts do
pub both_told : (P Q R : List ℕ → Type 0) (left : Option (List ℕ)) → ((bytes : List ℕ) → left ≡ Some bytes → P bytes → Q bytes → R bytes) → IfSome left P → IfSome left Q → IfSome left R
both_told P Q R None each first next = tt
both_told P Q R (Some bytes) each first next = each bytes refl first next

-- so what is said of them where nothing is known
pub of_told : (Q : List ℕ → Type 0) (left : Option (List ℕ)) → ((bytes : List ℕ) → left ≡ Some bytes → Q bytes) → IfSome left Q
of_told Q None each = tt
of_told Q (Some bytes) each = each bytes refl

-- what is left of told bytes after those taken
pub taken_rest : (left now : Option (List ℕ)) (input taken : List ℕ) → left ≡ Some input → Consumes left now taken
    → (rest : List ℕ) × (input ≡ taken ++ rest) × (now ≡ Some rest)
taken_rest left None input taken known consumed = absurd (subst (λ l. Consumes l None taken) known consumed)
taken_rest left (Some rest) input taken known consumed = (rest, subst (λ l. Consumes l (Some rest) taken) known consumed, refl)

-- where nothing was put, the empty text was
pub nothing_put : (old new : Option (List ℕ)) → Keeps old new → Appends old new []
nothing_put old new kept = Appends-kept old old new [] (Appends-nil old) kept

-- nothing happened
pub kept_same : (old new : Ends) → new ≡ old → Keeps old.written new.written
kept_same old new same = subst (λ (e : Ends). Keeps old.written e.written) (sym same) (Keeps-refl old.written)

-- so one does of the side file, and both are known
pub aside_told : (P : List ℕ → Type 0) (Q : List ℕ → List ℕ → Type 0) (side left : Option (List ℕ)) → ((aside input : List ℕ) → left ≡ Some input → P aside → Q aside input)
    → IfSome side P → IfSome side (λ aside. IfSome left (λ input. Q aside input))
aside_told P Q None left each fact = tt
aside_told P Q (Some aside) left each fact = of_told (Q aside) left (λ input known. each aside input known fact)

-- a status that isn't Ok, Usage, a fault or Memory
abbrev pub IsPlain : Status → Type 0
IsPlain status.Ok = ⊥
IsPlain status.Usage = ⊥
IsPlain status.ReadFault = ⊥
IsPlain status.WriteFault = ⊥
IsPlain status.Memory = ⊥
IsPlain _ = Unit {0}

module _ (Says : List ℕ → List ℕ → Status → List ℕ → Type 0) where
  -- a run that made such a status
  pub plain_realised : (side later : SideEnds) (old new : Ends) (answer : Status) → IsPlain answer → IsFaultless side later old new
      → OfBytes side old (λ aside input. PutsSaid Says aside input old new answer) → Realises Says side later old new answer
  plain_realised side later old new status.Ok plain is says = absurd plain
  plain_realised side later old new status.Usage plain is says = absurd plain
  plain_realised side later old new status.ReadFault plain is says = absurd plain
  plain_realised side later old new status.WriteFault plain is says = absurd plain
  plain_realised side later old new status.Memory plain is says = absurd plain
  plain_realised side later old new _ plain is says = (is, says)

  -- a run that is out of memory, and in which nothing happened
  pub memory_realised : (side later : SideEnds) (old new : Ends) → later.faults ≡ side.faults → new ≡ old → Realises Says side later old new status.Memory
  memory_realised side later old new kept same =
      (kept, ap (λ (e : Ends). e.read_faults) same, (ap (λ (e : Ends). e.write_faults) same, kept_same old new same))

-- a run without a side file that was out of memory before it read
pub no_memory : (Says : List ℕ → Status → List ℕ → Type 0) (old new : Ends) → new ≡ old → RealisesLeaving Says old new status.Memory
no_memory Says old new same = (memory_realised (λ aside. Says) no_side no_side old new refl same, λ memory. same)

-- one with a side file
pub no_memory_beside : {A : Type 0} (Is : List ℕ → A → Type 0) (Says : List ℕ → List ℕ → Status → List ℕ → Type 0) (side later : SideEnds) (old new : Ends)
    → later.faults ≡ side.faults → new ≡ old → RealisesBeside Is Says side later old new status.Memory
no_memory_beside Is Says side later old new kept same = (memory_realised Says side later old new kept same, (λ memory. same), inl same)
