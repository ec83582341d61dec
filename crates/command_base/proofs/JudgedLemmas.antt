-- An input that is accepted or refused has a verdict; so has one beside a side file that is good or refused.
use Rattle.std.proofs.Common.{◌⊎◌, inl, inr, refl, ℕ, List, []}
use Rattle.command_base.proofs.WholeInputLemmas.{AreRefusals}
use Rattle.command_base.specs.WholeInput.{IsRefusal}
use Rattle.command_base.specs.declared.status.Status.{Status}
use Rattle.command_base.specs.declared.status.Status.TheVariants as status
use Rattle.command_base.specs.Exact.{HasVerdict, IsFault}
use Rattle.command_base.specs.MadeVerdict.{BesideVerdict, MadeVerdict}

-- a refusal is no fault
refusal_plain : (answer : Status) → IsRefusal answer → IsFault answer → ⊥
refusal_plain status.ReadFault refusal fault = refusal
refusal_plain status.WriteFault refusal fault = refusal
refusal_plain _ refusal fault = fault

module _ {A : Type 0} (IsAccepted : List ℕ → A → Type 0) (output : A → List ℕ) (IsSound : A → Type 0) (Refused : List ℕ → Status → Type 0)
    (refusals : AreRefusals Refused) (sound : (input : List ℕ) (made : A) → IsAccepted input made → IsSound made) where
  abbrev Has : List ℕ → Type 0
  Has input = (answer : Status) × (text : List ℕ) × (IsFault answer → ⊥) × MadeVerdict IsAccepted output IsSound Refused input answer text

  refusal_made : (input : List ℕ) (answer : Status) → Refused input answer → Has input
  refusal_made input status.Ok refused = absurd (refusals input status.Ok refused)
  refusal_made input status.ReadFault refused = absurd (refusals input status.ReadFault refused)
  refusal_made input status.WriteFault refused = absurd (refusals input status.WriteFault refused)
  refusal_made input answer refused = (answer, [], λ fault. fault, (refused, refl))

  pub judged_made : (input : List ℕ) → ((made : A) × IsAccepted input made) ⊎ ((answer : Status) × Refused input answer) → Has input
  judged_made input (inl (made, accepted)) = (status.Ok, output made, λ fault. fault, (made, accepted, refl, sound input made accepted))
  judged_made input (inr (answer, refused)) = refusal_made input answer refused

-- with a side file
module _ {A : Type 0} (Is : List ℕ → A → Type 0) (Refused : List ℕ → Status → Type 0) (Makes : A → List ℕ → Status → List ℕ → Type 0) (refusals : AreRefusals Refused)
    (makes : (aside : List ℕ) (value : A) → Is aside value → HasVerdict (λ side. Makes value))
    (judged : (aside : List ℕ) → ((value : A) × Is aside value) ⊎ ((answer : Status) × Refused aside answer)) where
  pub beside_made : HasVerdict (BesideVerdict Is Refused Makes)
  beside_made aside input bytes = elim (judged aside) [
    | inl (value, is) ↦ let (answer, text, plain, made) = makes aside value is aside input bytes in (answer, text, plain, inr (value, is, made))
    | inr (answer, refused) ↦ (answer, [], refusal_plain answer (refusals aside answer refused), inl (refused, refl))
  ]
