-- A command that puts what it makes of its whole input realises its verdict.
use Rattle.std.proofs.Common.{◌≡◌, inr, refl, ℕ, List, [], Option, Some, Err}
use Rattle.std.specs.Prelude.{IfSome}
use Rattle.std.specs.Io.KnownBytes.{Keeps}
use Rattle.std.proofs.KnownBytes.{Keeps-refl}
use Rattle.cc_base.specs.Streams.{Puts, Rose, TakesWithin, whole_limit}
use Rattle.cc_base.specs.declared.streams.Put.{Put}
use Rattle.cc_base.specs.declared.streams.Put.TheVariants as put
use Rattle.command_base.proofs.RealisedLemmas.{both_told, if_told, nothing_put, of_told, taken_rest}
use Rattle.command_base.specs.Ends.{Ends, ends}
use Rattle.command_base.specs.MadeVerdict.{MadeVerdict, MakesOutput}
use Rattle.command_base.specs.Realises.{PutsRead, Realises, no_side}
use Rattle.command_base.specs.WholeInput.{IsReadToEnd, ReadsInput}
use Rattle.command_base.specs.declared.status.Status.{Status}
use Rattle.command_base.specs.declared.status.Status.TheVariants as status

-- the output of accepted bytes was put, or a front of it where a put failed
abbrev pub PutsMade : {A : Type 0} → (List ℕ → A → Type 0) → (A → List ℕ) → (A → Type 0) → Put → List ℕ → Option (List ℕ) → Option (List ℕ) → Type 0
PutsMade IsAccepted output IsSound answer bytes old new = (text : List ℕ) × MakesOutput IsAccepted output IsSound bytes text × Puts old new answer text

module _ {A : Type 0} (IsAccepted : List ℕ → A → Type 0) (output : A → List ℕ) (IsSound : A → Type 0) (Refused : List ℕ → Status → Type 0) where
  abbrev Says : List ℕ → List ℕ → Status → List ℕ → Type 0
  Says aside = MadeVerdict IsAccepted output IsSound Refused

  read_on : (old new : Ends) (input : List ℕ) → old.left ≡ Some input → TakesWithin whole_limit old.left new.left → Keeps old.written new.written
      → PutsRead Says [] input old new
  read_on old new input known (taken, consumed, within) kept =
      let (rest, spelled, left) = taken_rest old.left new.left input taken known consumed in
      record {
        read = taken;
        rest = rest;
        text = [];
        spelled = spelled;
        taken = left;
        says = (within, refl);
        output = nothing_put old.written new.written kept;
      }

  -- what isn't read is answered so, and nothing was put
  pub read_refused : {B : Type 0} (Is : List ℕ → B → Type 0) (left now_left written : Option (List ℕ)) (before now faults : ℕ) (answer : Status)
      → ReadsInput Is Refused left now_left before now (Err answer)
      → Realises Says no_side no_side (ends left before written faults) (ends now_left now written faults) answer
  read_refused Is left now_left written before now faults status.Ok read = absurd read
  read_refused Is left now_left written before now faults status.Usage read = absurd read
  read_refused Is left now_left written before now faults status.WriteFault read = absurd read
  read_refused Is left now_left written before now faults status.ReadFault read = inr (
    refl,
    read.0,
    refl,
    of_told _ left (λ bytes known. read_on (ends left before written faults) (ends now_left now written faults) bytes known read.1 (Keeps-refl written)),
  )
  read_refused Is left now_left written before now faults status.Memory read = (refl, read, (refl, Keeps-refl written))
  read_refused Is left now_left written before now faults answer read = (
    record { aside = refl; reads = read.0; writes = refl },
    if_told (λ bytes. Refused bytes answer) _ left (λ bytes known refused. ([], (refused, refl), nothing_put written written (Keeps-refl written))) read.1,
  )

  -- the output was put
  pub made_done : (old new : Ends) → new.read_faults ≡ old.read_faults → new.write_faults ≡ old.write_faults → IsReadToEnd old.left new.left
      → IfSome old.left (λ bytes. PutsMade IsAccepted output IsSound put.Done bytes old.written new.written) → Realises Says no_side no_side old new status.Ok
  made_done old new reads writes read made = (
    refl,
    record { aside = refl; reads = reads; writes = writes },
    both_told (λ bytes. new.left ≡ Some []) (λ bytes. PutsMade IsAccepted output IsSound put.Done bytes old.written new.written) _ old.left
        (λ bytes known end puts. (end, puts)) read made,
  )

  -- or a put of it failed
  pub made_failed : (old new : Ends) → new.read_faults ≡ old.read_faults → Rose old.write_faults new.write_faults
      → IfSome old.left (λ bytes. PutsMade IsAccepted output IsSound put.Failed bytes old.written new.written) → Realises Says no_side no_side old new status.WriteFault
  made_failed old new reads rose made = (refl, reads, rose, made)
