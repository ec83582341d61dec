-- The earliest placement is the first fit, wherever what is allowed after units is allowed after them also where they
-- stand earlier.
use Rattle.std.proofs.Common.{◌≡◌, ℕ, ◌<◌, ◌≤◌, List, [], ◌∷◌, ◌++◌, sym, subst, arith, append_assoc, append-nil, ⊎_elim}
use Rattle.std.proofs.lemmas.Bool.{cases_lt}
use Rattle.std.specs.List.{zip}
use Rattle.lanes.specs.FirstFit.{IsFirst, IsFirstFit, EarliestIsFirstFit}
use Rattle.lanes.specs.OneMore.{FitsEarlier}
use Rattle.lanes.specs.Placing.{IsPlaced, IsEarliest, NoLater}
use Rattle.lanes.proofs.PlacingLemmas.{earliest_none, no_later_push, no_later_same, one_more, placed_push, zip_push}

module _ {U : Type 0} (allowed : List (U × ℕ) → U → ℕ → Type 0) (fits : FitsEarlier allowed) where
  -- a placement with one more unit after units that it names
  behind_one : (us : List U) (fs : List ℕ) (u : U) (f : ℕ) (vs : List U) (gs : List ℕ) → IsPlaced allowed [] us fs
      → IsPlaced allowed (zip us fs ++ (u, f) ∷ []) vs gs → IsPlaced allowed (zip (us ++ u ∷ []) (fs ++ f ∷ [])) vs gs
  behind_one us fs u f vs gs placed rest = subst (λ before. IsPlaced allowed before vs gs) (sym (zip_push allowed [] us fs u f placed)) rest

  -- units after others stay where they are, where those stand no later
  rest_earlier : (us : List U) (fs gs : List ℕ) (vs : List U) (hs : List ℕ) → IsPlaced allowed [] us fs → IsPlaced allowed [] us gs → NoLater fs gs
      → IsPlaced allowed (zip us gs) vs hs → IsPlaced allowed (zip us fs) vs hs
  rest_earlier us fs gs [] [] p q low rest = tt
  rest_earlier us fs gs [] (h ∷ hs) p q low rest = rest
  rest_earlier us fs gs (v ∷ vs) [] p q low rest = rest
  rest_earlier us fs gs (v ∷ vs) (h ∷ hs) p q low rest =
      let here : allowed (zip us fs) v h = fits us fs gs v h p q low rest.0 in
      let more = rest_earlier (us ++ v ∷ []) (fs ++ h ∷ []) (gs ++ h ∷ []) vs hs
      (placed_push allowed [] us fs v h p here) (placed_push allowed [] us gs v h q rest.0) (no_later_push fs gs h h low (omega arith))
      (behind_one us gs v h vs hs q rest.1) in
      (here, subst (λ before. IsPlaced allowed before vs hs) (zip_push allowed [] us fs v h p) more)

  -- the earliest of the placements after the earliest of the units before is the first fit
  first_fit_behind : (us : List U) (fs : List ℕ) (vs : List U) (gs : List ℕ) → IsEarliest allowed us fs → IsPlaced allowed (zip us fs) vs gs
      → ((hs : List ℕ) → IsPlaced allowed (zip us fs) vs hs → NoLater gs hs) → IsFirstFit allowed (zip us fs) vs gs
  first_fit_behind us fs [] [] earliest placed least = tt
  first_fit_behind us fs [] (g ∷ gs) earliest placed least = placed
  first_fit_behind us fs (v ∷ vs) [] earliest placed least = placed
  first_fit_behind us fs (v ∷ vs) (g ∷ gs) earliest placed least = (
    first,
    subst (λ before. IsFirstFit allowed before vs gs) joined
        (first_fit_behind (us ++ v ∷ []) (fs ++ g ∷ []) vs gs ((one_more allowed fits us fs v earliest).first g placed.0 first.first)
        (behind_one us fs v g vs gs earliest.placed placed.1)
        (λ hs p. (least (g ∷ hs) (placed.0, subst (λ before. IsPlaced allowed before vs hs) joined p)).1)),
  )
    where
      joined : zip (us ++ v ∷ []) (fs ++ g ∷ []) ≡ zip us fs ++ (v, g) ∷ []
      joined = zip_push allowed [] us fs v g earliest.placed

      -- the rest stays where it is after a unit that stands earlier
      earlier : (h : ℕ) → h < g → allowed (zip us fs) v h → g ≤ h
      earlier h low here =
          let rest = rest_earlier (us ++ v ∷ []) (fs ++ h ∷ []) (fs ++ g ∷ []) vs gs
          (placed_push allowed [] us fs v h earliest.placed here) (placed_push allowed [] us fs v g earliest.placed placed.0)
          (no_later_push fs fs h g (no_later_same fs) (omega arith)) (behind_one us fs v g vs gs earliest.placed placed.1) in
          (least (h ∷ gs) (here, subst (λ before. IsPlaced allowed before vs gs) (zip_push allowed [] us fs v h earliest.placed) rest)).0

      first : IsFirst (allowed (zip us fs) v) g
      first = record {
        holds = placed.0;
        first = λ h here. ⊎_elim (λ (low : h < g). earlier h low here) (λ (high : g ≤ h). high) (cases_lt h g);
      }

  -- the first fit after the earliest of the units before is the earliest of all
  earliest_behind : (us : List U) (fs : List ℕ) (vs : List U) (gs : List ℕ) → IsEarliest allowed us fs → IsFirstFit allowed (zip us fs) vs gs
      → IsEarliest allowed (us ++ vs) (fs ++ gs)
  earliest_behind us fs [] [] earliest fit =
      subst (λ l. IsEarliest allowed l (fs ++ [])) (sym (append-nil us)) (subst (λ l. IsEarliest allowed us l) (sym (append-nil fs)) earliest)
  earliest_behind us fs [] (g ∷ gs) earliest fit = absurd fit
  earliest_behind us fs (v ∷ vs) [] earliest fit = absurd fit
  earliest_behind us fs (v ∷ vs) (g ∷ gs) earliest fit =
      let all = earliest_behind (us ++ v ∷ []) (fs ++ g ∷ []) vs gs
      ((one_more allowed fits us fs v earliest).first g fit.0.holds fit.0.first)
      (subst (λ before. IsFirstFit allowed before vs gs) (sym (zip_push allowed [] us fs v g earliest.placed)) fit.1) in
      subst (λ l. IsEarliest allowed l (fs ++ g ∷ gs)) (append_assoc us (v ∷ []) vs)
      (subst (λ l. IsEarliest allowed ((us ++ v ∷ []) ++ vs) l) (append_assoc fs (g ∷ []) gs) all)

  pub first_fit : (us : List U) (fs : List ℕ) → IsEarliest allowed us fs → IsFirstFit allowed [] us fs
  first_fit us fs earliest = first_fit_behind [] [] us fs (earliest_none allowed) earliest.placed earliest.first

  pub earliest_fit : (us : List U) (fs : List ℕ) → IsFirstFit allowed [] us fs → IsEarliest allowed us fs
  earliest_fit us fs fit = earliest_behind [] [] us fs (earliest_none allowed) fit

  -- both are one
  pub earliest_is_first_fit : EarliestIsFirstFit allowed
  earliest_is_first_fit us fs = (first_fit us fs, earliest_fit us fs)
