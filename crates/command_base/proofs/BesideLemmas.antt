-- What is made of an input beside the value of a side file.
use Rattle.std.proofs.Common.{◌≡◌, ap, arith, inl, inr, refl, ℕ, List, [], IfSome, Option, Some, None, Ok, Err}
use Rattle.cc_base.specs.Streams.{Puts}
use Rattle.cc_base.specs.declared.streams.Put.TheVariants as put
use Rattle.command_base.specs.Ends.{Ends}
use Rattle.command_base.specs.WholeInput.{ReadsInput}
use Rattle.command_base.specs.declared.status.Status.{Status}
use Rattle.command_base.specs.declared.status.Status.TheVariants as status
use Rattle.command_base.specs.SideEnds.{SideEnds}
use Rattle.command_base.proofs.RealisedLemmas.{aside_told, kept_same, nothing_put}
use Rattle.command_base.specs.Realises.{PutsRead, PutsSaid, Realises, no_side}
use Rattle.command_base.specs.MadeVerdict.{BesideVerdict}

-- two facts, of the side file and of the input
both_lift : (P R : List ℕ → Type 0) (Q : List ℕ → List ℕ → Type 0) (side left : Option (List ℕ)) → ((aside input : List ℕ) → P aside → R input → Q aside input)
    → IfSome side P → IfSome left R → IfSome side (λ aside. IfSome left (λ input. Q aside input))
both_lift P R Q None left each one other = tt
both_lift P R Q (Some aside) None each one other = tt
both_lift P R Q (Some aside) (Some input) each one other = each aside input one other

module _ {A : Type 0} (Is : List ℕ → A → Type 0) (Refused : List ℕ → Status → Type 0) (Makes : A → List ℕ → Status → List ℕ → Type 0) where
  abbrev Verdict : List ℕ → List ℕ → Status → List ℕ → Type 0
  Verdict = BesideVerdict Is Refused Makes

  -- the side file is refused
  pub side_refused : {B : Type 0} (Other : List ℕ → B → Type 0) (side later : SideEnds) (old new : Ends) (answer : Status)
      → ReadsInput Other Refused side.left later.left side.faults later.faults (Err answer) → new ≡ old
      → Realises Verdict side later old new answer
  side_refused Other side later old new status.Ok read same = absurd read
  side_refused Other side later old new status.Usage read same = absurd read
  side_refused Other side later old new status.WriteFault read same = absurd read
  side_refused Other side later old new status.ReadFault read same = inl (read.0, read.1, same)
  side_refused Other side later old new status.Memory read same =
      (read, ap (λ (e : Ends). e.read_faults) same, (ap (λ (e : Ends). e.write_faults) same, kept_same old new same))
  side_refused Other side later old new answer read same = (
    record { aside = read.0; reads = ap (λ (e : Ends). e.read_faults) same; writes = ap (λ (e : Ends). e.write_faults) same },
    aside_told (λ bytes. Refused bytes answer) (λ aside input. PutsSaid Verdict aside input old new answer) side.left old.left
        (λ aside input known refused. ([], inl (refused, refl), nothing_put old.written new.written (kept_same old new same))) read.1,
  )

  abbrev SaysOf : A → List ℕ → List ℕ → Status → List ℕ → Type 0
  SaysOf value aside = Makes value

  -- it is this value
  pub beside_realised : (value : A) (side later : SideEnds) (old new : Ends) (answer : Status) → ReadsInput Is Refused side.left later.left side.faults later.faults (Ok value)
      → Realises (SaysOf value) no_side no_side old new answer → Realises Verdict side later old new answer
  beside_realised value side later old new status.Ok read is = (
    read.1,
    record { aside = read.0; reads = is.1.reads; writes = is.1.writes },
    both_lift (λ aside. Is aside value) (λ input. (new.left ≡ Some []) × PutsSaid (SaysOf value) [] input old new status.Ok)
        (λ aside input. (new.left ≡ Some []) × PutsSaid Verdict aside input old new status.Ok) side.left old.left
        (λ aside input it made. (made.0, (made.1.0, inr (value, it, made.1.1), made.1.2))) read.2 is.2,
  )
  beside_realised value side later old new status.Usage read is = absurd is
  beside_realised value side later old new status.ReadFault read (inl is) = absurd (omega (arith, is.0))
  beside_realised value side later old new status.ReadFault read (inr is) = inr (
    read.0,
    is.1,
    is.2,
    both_lift (λ aside. Is aside value) (λ input. PutsRead (SaysOf value) [] input old new) (λ aside input. PutsRead Verdict aside input old new) side.left old.left
        (λ aside input it puts. record {
          read = puts.read;
          rest = puts.rest;
          text = puts.text;
          spelled = puts.spelled;
          taken = puts.taken;
          says = inr (value, it, puts.says);
          output = puts.output;
        }) read.2 is.3,
  )
  beside_realised value side later old new status.WriteFault read is = (
    read.0,
    is.1,
    is.2,
    both_lift (λ aside. Is aside value) (λ input. (text : List ℕ) × SaysOf value [] input status.WriteFault text × Puts old.written new.written put.Failed text)
        (λ aside input. (text : List ℕ) × Verdict aside input status.WriteFault text × Puts old.written new.written put.Failed text) side.left old.left
        (λ aside input it puts. (puts.0, inr (value, it, puts.1), puts.2)) read.2 is.3,
  )
  beside_realised value side later old new status.Memory read is = (read.0, is.1, is.2)
  beside_realised value side later old new answer read is = (
    record { aside = read.0; reads = is.0.reads; writes = is.0.writes },
    both_lift (λ aside. Is aside value) (λ input. PutsSaid (SaysOf value) [] input old new answer) (λ aside input. PutsSaid Verdict aside input old new answer) side.left old.left
        (λ aside input it made. (made.0, inr (value, it, made.1), made.2)) read.2 is.1,
  )
