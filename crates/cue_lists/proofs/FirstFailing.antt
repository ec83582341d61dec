-- The nearest cue before one of which something doesn't hold, and the first that passes a test.
use Rattle.std.proofs.Common.{◌≡◌, ℕ, ◌+◌, Bool, true, false, if◌then◌else◌, List, [], ◌∷◌, ◌++◌, length, Some, None, refl, sym, ap, subst}
use Rattle.std.specs.List.{AllByRecursion, find}
use Rattle.std.proofs.lemmas.Bool.{true_from_ne_false}
use Rattle.cue_form.proofs.FirstFailing.{first_here, first_later}
use Rattle.cue_form.specs.FirstFailing.{IsFirstFailing}
use Rattle.cue_types.specs.declared.cue.Cue.{Cue}
use Rattle.cue_lists.specs.Rules.Former.{nearest_number}
use Rattle.cue_lists.proofs.Denials.{Denies}

module _ (test : Cue → Bool) (Holds : Cue → Type 0) (denies : (cue : Cue) → Denies (test cue) (Holds cue)) where
  -- the number that a test finds is the number of the nearest cue of which its sentence doesn't hold
  pub nearest_first : (cues : List Cue) (number : ℕ) → nearest_number test cues ≡ Some number
      → (other : Cue) × (is : IsFirstFailing Holds cues other) × (number ≡ length is.after + 1)
  nearest_first [] number is = cc
  nearest_first (cue ∷ cues) number is = by_test (test cue) (denies cue) (nearest_first cues number) is
    where
      by_test : (b : Bool) → Denies b (Holds cue)
          → (nearest_number test cues ≡ Some number → (other : Cue) × (is : IsFirstFailing Holds cues other) × (number ≡ length is.after + 1))
          → (if b then Some (length cues + 1) else nearest_number test cues) ≡ Some number
          → (other : Cue) × (is : IsFirstFailing Holds (cue ∷ cues) other) × (number ≡ length is.after + 1)
      by_test true d older e =
          let here : number ≡ length cues + 1 = cc in (cue, first_here Holds cue cues (d.fails refl), here)
      by_test false d older e =
          let first = older e in (first.0, first_later Holds cue cues first.0 (d.holds refl) first.1, first.2)

  -- where it finds none, the sentence holds of all
  pub none_nearest : (cues : List Cue) → nearest_number test cues ≡ None → AllByRecursion Holds cues
  none_nearest [] none = tt
  none_nearest (cue ∷ cues) none = by_test (test cue) (denies cue) (none_nearest cues) none
    where
      by_test : (b : Bool) → Denies b (Holds cue) → (nearest_number test cues ≡ None → AllByRecursion Holds cues)
          → (if b then Some (length cues + 1) else nearest_number test cues) ≡ None → AllByRecursion Holds (cue ∷ cues)
      by_test true d older e = cc
      by_test false d older e = (d.holds refl, older e)

-- a cue that is found by a test is the first that passes it
pub found_first : (test : Cue → Bool) (cues : List Cue) (x : Cue) → find test cues ≡ Some x
    → (number : ℕ) × (nearest_number test cues ≡ Some number) × (is : IsFirstFailing (λ (cue : Cue). test cue ≡ false) cues x)
    × (number ≡ length is.after + 1)
found_first test [] x found = cc
found_first test (cue ∷ cues) x found = by_test (test cue) refl (found_first test cues x) found
  where
    by_test : (b : Bool) → test cue ≡ b
        → (find test cues ≡ Some x → (number : ℕ) × (nearest_number test cues ≡ Some number)
        × (is : IsFirstFailing (λ (cue : Cue). test cue ≡ false) cues x) × (number ≡ length is.after + 1))
        → (if b then Some cue else find test cues) ≡ Some x
        → (number : ℕ) × ((if b then Some (length cues + 1) else nearest_number test cues) ≡ Some number)
        × (is : IsFirstFailing (λ (cue : Cue). test cue ≡ false) (cue ∷ cues) x) × (number ≡ length is.after + 1)
    by_test true passes older e =
        let same : cue ≡ x = cc in (
          length cues + 1,
          refl,
          record {
            before = [];
            after = cues;
            split = ap (λ (c : Cue). c ∷ cues) same;
            all = tt;
            fails = λ fails. let other : test cue ≡ false = subst (λ (c : Cue). test c ≡ false) (sym same) fails in cc;
          },
          refl,
        )
    by_test false fails older e =
        let first = older e in
        (first.0, first.1, first_later (λ (c : Cue). test c ≡ false) cue cues x fails first.2, first.3)

-- and the other way round
pub first_found : (test : Cue → Bool) (cues : List Cue) (x : Cue) → IsFirstFailing (λ (cue : Cue). test cue ≡ false) cues x
    → find test cues ≡ Some x
first_found test cues x first = subst (λ (l : List Cue). find test l ≡ Some x) (sym first.split) (behind first.before first.all)
  where
    behind : (before : List Cue) → AllByRecursion (λ (cue : Cue). test cue ≡ false) before
        → find test (before ++ x ∷ first.after) ≡ Some x
    behind [] all = rw (true_from_ne_false (test x) first.fails) refl
    behind (cue ∷ before) all = rw all.0 (behind before all.1)
