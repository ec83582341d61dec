-- Of an input that is judged as a whole a command makes one status, where it is accepted or refused so, and never both.
use Rattle.std.proofs.Common.{◌≡◌, ◌∙◌, ◌⊎◌, inl, inr, refl, sym, ℕ, List}
use Rattle.command_base.specs.declared.status.Status.{Status}
use Rattle.command_base.specs.declared.status.Status.TheVariants as status
use Rattle.command_base.specs.Exact.{IsFault}
use Rattle.command_base.specs.MadeVerdict.{BesideVerdict, MadeVerdict}

module _ {A : Type 0} (IsAccepted : List ℕ → A → Type 0) (output : A → List ℕ) (IsSound : A → Type 0) (Refused : List ℕ → Status → Type 0)
    (never : (input : List ℕ) (made : A) (answer : Status) → IsAccepted input made → Refused input answer → ⊥)
    (once : (input : List ℕ) (one other : Status) → Refused input one → Refused input other → one ≡ other) where
  abbrev Made : List ℕ → Status → Type 0
  Made input answer = ((answer ≡ status.Ok) × ((made : A) × IsAccepted input made)) ⊎ Refused input answer

  made_of : (input : List ℕ) (answer : Status) (text : List ℕ) → (IsFault answer → ⊥) → MadeVerdict IsAccepted output IsSound Refused input answer text → Made input answer
  made_of input status.Ok text plain is = inl (refl, (is.0, is.1))
  made_of input status.ReadFault text plain is = absurd (plain tt)
  made_of input status.WriteFault text plain is = absurd (plain tt)
  made_of input _ text plain is = inr is.0

  same_made : (input : List ℕ) (one other : Status) → Made input one → Made input other → one ≡ other
  same_made input one other (inl (is, made)) (inl (at, more)) = is ∙ sym at
  same_made input one other (inl (is, (made, accepted))) (inr refused) = absurd (never input made other accepted refused)
  same_made input one other (inr refused) (inl (at, (made, accepted))) = absurd (never input made one accepted refused)
  same_made input one other (inr refused) (inr again) = once input one other refused again

  pub made_one : (input : List ℕ) (one other : Status) (text more : List ℕ) → (IsFault one → ⊥) → (IsFault other → ⊥) → MadeVerdict IsAccepted output IsSound Refused input one text
      → MadeVerdict IsAccepted output IsSound Refused input other more → one ≡ other
  made_one input one other text more plain told is at = same_made input one other (made_of input one text plain is) (made_of input other more told at)

-- of an input beside a side file, of which values that are read are alike
module _ {A : Type 0} (Is : List ℕ → A → Type 0) (Refused : List ℕ → Status → Type 0) (Makes : A → List ℕ → Status → List ℕ → Type 0)
    (never : (aside : List ℕ) (value : A) (answer : Status) → Is aside value → Refused aside answer → ⊥)
    (once : (aside : List ℕ) (one other : Status) → Refused aside one → Refused aside other → one ≡ other)
    (alike : (aside input : List ℕ) (value other : A) (answer : Status) (text : List ℕ) → Is aside value → Is aside other → Makes other input answer text → Makes value input answer text)
    (each : (value : A) (input : List ℕ) (one other : Status) (text more : List ℕ) → (IsFault one → ⊥) → (IsFault other → ⊥) → Makes value input one text → Makes value input other more
    → one ≡ other) where
  pub beside_one : (aside input : List ℕ) (one other : Status) (text more : List ℕ) → (IsFault one → ⊥) → (IsFault other → ⊥) → BesideVerdict Is Refused Makes aside input one text
      → BesideVerdict Is Refused Makes aside input other more → one ≡ other
  beside_one aside input one other text more plain told (inl (refused, none)) (inl (again, also)) = once aside one other refused again
  beside_one aside input one other text more plain told (inl (refused, none)) (inr (value, good, made)) = absurd (never aside value one good refused)
  beside_one aside input one other text more plain told (inr (value, good, made)) (inl (refused, none)) = absurd (never aside value other good refused)
  beside_one aside input one other text more plain told (inr (value, good, made)) (inr (another, fine, others)) =
      each value input one other text more plain told made (alike aside input value another other more good fine others)
