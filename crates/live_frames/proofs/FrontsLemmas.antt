-- Two lanes that allow the same below a horizon put the same units there, in their earliest placements, if one has the
-- units of the other and, after these, units that may stand from the horizon on alone.
use Rattle.std.proofs.Common.{◌≡◌, ℕ, ◌<◌, ◌≤◌, List, [], ◌∷◌, ◌++◌, true, false, ltb, refl, sym, ap, ◌∙◌, subst, arith, ⊎_elim}
use Rattle.std.proofs.lemmas.Bool.{cases_lt}
use Rattle.std.proofs.lemmas.Bool.Decides.{nat_tests}
use Rattle.std.specs.List.{AllByRecursion, zip}
use Rattle.lanes.specs.FirstFit.{IsFirstFit}
use Rattle.lanes.specs.Placing.{IsEarliest}
use Rattle.lanes.proofs.FirstFitLemmas.{first_fit}
use Rattle.live_frames.specs.Fronts.{below, AreInOrder, AgreeBelow, AreAllowedFrom, AreAlikeBelow}

-- a test of a place
is_below : (f horizon : ℕ) → f < horizon → ltb f horizon ≡ true
is_below f horizon h = grind (arith, nat_tests)

is_not_below : (f horizon : ℕ) → horizon ≤ f → ltb f horizon ≡ false
is_not_below f horizon h = grind (arith, nat_tests)

module _ {U : Type 0} (horizon : ℕ) where
  module _ (allowed : List (U × ℕ) → U → ℕ → Type 0) where
    -- after a unit that isn't below the horizon none is
    none_after : AreInOrder allowed → (before : List (U × ℕ)) (u : U) (f : ℕ) (us : List U) (fs : List ℕ) → horizon ≤ f
        → IsFirstFit allowed (before ++ (u, f) ∷ []) us fs → below horizon (zip us fs) ≡ []
    none_after order before u f [] fs high fit = refl
    none_after order before u f (v ∷ us) [] high fit = refl
    none_after order before u f (v ∷ us) (g ∷ fs) high fit =
        let low : f ≤ g = order before u f v g fit.0.holds in
        let test : ltb g horizon ≡ false = is_not_below g horizon (omega arith) in
        rw test (none_after order (before ++ (u, f) ∷ []) v g us fs (omega arith) fit.1)

    -- nor is any of units that may stand from it on alone
    none_allowed : (before : List (U × ℕ)) (us : List U) (fs : List ℕ) → AreAllowedFrom horizon allowed us
        → IsFirstFit allowed before us fs → below horizon (zip us fs) ≡ []
    none_allowed before [] fs from fit = refl
    none_allowed before (u ∷ us) [] from fit = refl
    none_allowed before (u ∷ us) (f ∷ fs) from fit =
        let high : horizon ≤ f = from.0 before f fit.0.holds in
        let test : ltb f horizon ≡ false = is_not_below f horizon high in
        rw test (none_allowed (before ++ (u, f) ∷ []) us fs from.1 fit.1)

  module _ (first second : List (U × ℕ) → U → ℕ → Type 0) (agree : AgreeBelow horizon first second) (first_order : AreInOrder first)
      (second_order : AreInOrder second) where
    -- the first fits put the same units below the horizon, in the same places, after the same units
    same_after : (before : List (U × ℕ)) (us vs : List U) (fs gs : List ℕ) → IsFirstFit first before us fs
        → IsFirstFit second before (us ++ vs) gs → AreAllowedFrom horizon second vs
        → below horizon (zip us fs) ≡ below horizon (zip (us ++ vs) gs)
    same_after before [] vs fs gs p q from = sym (none_allowed second before vs gs from q)
    same_after before (u ∷ us) vs [] gs p q from = absurd p
    same_after before (u ∷ us) vs (f ∷ fs) [] p q from = absurd q
    same_after before (u ∷ us) vs (f ∷ fs) (g ∷ gs) p q from =
        ⊎_elim
        (λ (low : f < horizon).
        let no_later : g ≤ f = q.0.first f ((agree before u f low).0 p.0.holds) in
        let no_earlier : f ≤ g = p.0.first g ((agree before u g (omega arith)).1 q.0.holds) in
        let same : g ≡ f = omega arith in
        let rest = same_after (before ++ (u, f) ∷ []) us vs fs gs p.1
        (subst (λ (h : ℕ). IsFirstFit second (before ++ (u, h) ∷ []) (us ++ vs) gs) same q.1) from in
        let one : ltb f horizon ≡ true = is_below f horizon low in
        subst (λ (h : ℕ). below horizon (zip (u ∷ us) (f ∷ fs)) ≡ below horizon (zip (u ∷ (us ++ vs)) (h ∷ gs))) (sym same)
        (rw one (ap (λ (l : List (U × ℕ)). (u, f) ∷ l) rest)))
        (λ (high : horizon ≤ f).
        let too : horizon ≤ g = ⊎_elim
        (λ (less : g < horizon). let no_earlier : f ≤ g = p.0.first g ((agree before u g less).1 q.0.holds) in omega arith)
        (λ (more : horizon ≤ g). more)
        (cases_lt g horizon) in
        let one : ltb f horizon ≡ false = is_not_below f horizon high in
        let two : ltb g horizon ≡ false = is_not_below g horizon too in
        let left = none_after first first_order before u f us fs high p.1 in
        let right = none_after second second_order before u g (us ++ vs) gs too q.1 in
        rw (one, two) (left ∙ sym right))
        (cases_lt f horizon)

  -- so do the earliest placements
  pub same_front : (first second : List (U × ℕ) → U → ℕ → Type 0) → AreAlikeBelow horizon first second
      → (us vs : List U) (fs gs : List ℕ) → IsEarliest first us fs → IsEarliest second (us ++ vs) gs → AreAllowedFrom horizon second vs
      → below horizon (zip us fs) ≡ below horizon (zip (us ++ vs) gs)
  same_front first second alike us vs fs gs p q from =
      same_after first second alike.agree alike.first_in_order alike.second_in_order [] us vs fs gs
      (first_fit first alike.first_fits us fs p) (first_fit second alike.second_fits (us ++ vs) gs q) from

-- what holds of all of two lists
pub all_append : {X : Type 0} (P : X → Type 0) (xs ys : List X) → AllByRecursion P xs → AllByRecursion P ys → AllByRecursion P (xs ++ ys)
all_append P [] ys all too = too
all_append P (x ∷ xs) ys all too = (all.0, all_append P xs ys all.1 too)

pub all_after : {X : Type 0} (P : X → Type 0) (xs ys : List X) → AllByRecursion P (xs ++ ys) → AllByRecursion P ys
all_after P [] ys all = all
all_after P (x ∷ xs) ys all = all_after P xs ys all.1
