-- Room in a lane: the units up to a cue, and the first cue without room.
use Rattle.std.proofs.Common.{◌≡◌, ℕ, ◌+◌, ◌<◌, ◌≤◌, List, [], ◌∷◌, ◌++◌, true, false, leb, refl, sym, ap, subst, arith, length, get_or, take, zero, suc, ⊎_elim}
use Rattle.std.proofs.lemmas.Bool.{cases_lt}
use Rattle.std.proofs.lemmas.Bool.Decides.{nat_tests}
use Rattle.std.specs.List.{zip}
use Rattle.lanes.specs.LaneRoom.{AreOfCuesFrom, AreInCueOrder, up_to, HasRoom, IsFirstCrowded}
use Rattle.lanes.specs.OneMore.{FitsEarlier}
use Rattle.lanes.specs.Placing.{IsPlaced, IsEarliest, HasPlacement}
use Rattle.lanes.proofs.PlacingLemmas.{one_more, placed_prefix, none_append}

module _ {U : Type 0} (cue_of : U → ℕ) where
  -- the units are of cues from a number on
  pub of_cues_from : (cue : ℕ) (us : List U) → AreOfCuesFrom cue_of cue us → (k : ℕ) (d : U) → k < length us → cue ≤ cue_of (get_or us k d)
  of_cues_from cue [] from k d h = absurd (omega arith)
  of_cues_from cue (u ∷ us) from zero d h = from.0
  of_cues_from cue (u ∷ us) from (suc k) d h = of_cues_from cue us from.1 k d (omega arith)

  -- no unit is of an earlier cue than the first one's
  pub order_from : (u : U) (us : List U) → AreInCueOrder cue_of (u ∷ us) → (k : ℕ) (d : U) → k < length (u ∷ us) → cue_of u ≤ cue_of (get_or (u ∷ us) k d)
  order_from u us o = of_cues_from (cue_of u) (u ∷ us) (omega arith, o.0)

  -- no unit is of a cue up to a number that is below the first one's
  pub up_to_none : (cue : ℕ) (us : List U) → ((k : ℕ) (d : U) → k < length us → cue < cue_of (get_or us k d)) → up_to cue_of cue us ≡ []
  up_to_none cue [] h = refl
  up_to_none cue (u ∷ us) h =
      let above : cue < cue_of u = h 0 u (omega arith) in
      let rest : up_to cue_of cue us ≡ [] = up_to_none cue us (λ k d i. h (suc k) d (omega arith)) in
      let test : leb (cue_of u) cue ≡ false = grind (arith, nat_tests) in
      rw test rest

  -- the units up to a cue are the first ones
  pub up_to_first : (us : List U) (cue : ℕ) → AreInCueOrder cue_of us → (rest : List U) × (us ≡ up_to cue_of cue us ++ rest)
  up_to_first [] cue o = ([], refl)
  up_to_first (u ∷ us) cue o =
      ⊎_elim
      (λ (i : cue < cue_of u). (u ∷ us, sym (ap (λ l. l ++ u ∷ us) (up_to_none cue (u ∷ us) (λ n e r. omega (arith, order_from u us o n e r, i))))))
      (λ (i : cue_of u ≤ cue).
      let w = up_to_first us cue o.1 in
      let test : leb (cue_of u) cue ≡ true = grind (arith, nat_tests) in
      (w.0, rw test (ap (λ l. u ∷ l) w.1)))
      (cases_lt cue (cue_of u))

  -- the units up to an earlier cue are the first ones of those before a unit
  pub up_to_before : (us : List U) (k cue : ℕ) (d : U) → AreInCueOrder cue_of us → k < length us → cue < cue_of (get_or us k d)
      → (rest : List U) × (take k us ≡ up_to cue_of cue us ++ rest)
  up_to_before [] k cue d o h below = absurd (omega arith)
  up_to_before (u ∷ us) zero cue d o h below =
      ([], sym (ap (λ l. l ++ []) (up_to_none cue (u ∷ us) (λ n e r. omega (arith, order_from u us o n e r, below)))))
  up_to_before (u ∷ us) (suc k) cue d o h below =
      ⊎_elim
      (λ (i : cue < cue_of u). (u ∷ take k us, sym (ap (λ l. l ++ u ∷ take k us) (up_to_none cue (u ∷ us) (λ n e r. omega (arith, order_from u us o n e r, i))))))
      (λ (i : cue_of u ≤ cue).
      let w = up_to_before us k cue d o.1 (omega arith) below in
      let test : leb (cue_of u) cue ≡ true = grind (arith, nat_tests) in
      (w.0, rw test (ap (λ l. u ∷ l) w.1)))
      (cases_lt cue (cue_of u))

  -- the units up to a unit's cue begin with those up to the unit
  pub up_to_through : (us : List U) (k : ℕ) (d : U) → AreInCueOrder cue_of us → k < length us
      → (rest : List U) × (up_to cue_of (cue_of (get_or us k d)) us ≡ take (suc k) us ++ rest)
  up_to_through [] k d o h = absurd (omega arith)
  up_to_through (u ∷ us) zero d o h =
      let test : leb (cue_of u) (cue_of u) ≡ true = grind (arith, nat_tests) in
      (up_to cue_of (cue_of u) us, rw test refl)
  up_to_through (u ∷ us) (suc k) d o h =
      let w = up_to_through us k d o.1 (omega arith) in
      let test : leb (cue_of u) (cue_of (get_or us k d)) ≡ true = let i = order_from u us o (suc k) d (omega arith) in grind (arith, nat_tests) in
      (w.0, rw test (ap (λ l. u ∷ l) w.1))

  module _ (allowed : List (U × ℕ) → U → ℕ → Type 0) where
    -- where no slot is allowed for a unit after the earliest placement of those before it, its cue is the first without room
    pub no_room_at : FitsEarlier allowed → (us : List U) (k : ℕ) (d : U) (slots : List ℕ) → AreInCueOrder cue_of us → k < length us
        → IsEarliest allowed (take k us) slots → take (k + 1) us ≡ take k us ++ get_or us k d ∷ []
        → ((f : ℕ) → allowed (zip (take k us) slots) (get_or us k d) f → ⊥) → IsFirstCrowded allowed cue_of us (cue_of (get_or us k d))
    no_room_at fits us k d slots o h earliest more nowhere =
        let none : HasPlacement allowed (take (k + 1) us) → ⊥ =
        subst (λ l. HasPlacement allowed l → ⊥) (sym more) ((one_more allowed fits (take k us) slots (get_or us k d) earliest).none nowhere) in
        let through = up_to_through us k d o h in
        record {
          none = subst (λ l. HasPlacement allowed l → ⊥) (sym through.1)
              (none_append allowed (take (suc k) us) through.0 (let e : k + 1 ≡ suc k = omega arith in subst (λ n. HasPlacement allowed (take n us) → ⊥) e none));
          first = λ earlier below.
              let before = up_to_before us k earlier d o h below in
              placed_prefix allowed (up_to cue_of earlier us) before.0 slots (subst (λ l. IsPlaced allowed [] l slots) before.1 earliest.placed);
        }

    -- where all units have a placement, each cue has room
    pub room_all : (us : List U) → AreInCueOrder cue_of us → (slots : List ℕ) → IsPlaced allowed [] us slots → (cue : ℕ) → HasRoom allowed cue_of us cue
    room_all us o slots placed cue =
        let w = up_to_first us cue o in
        placed_prefix allowed (up_to cue_of cue us) w.0 slots (subst (λ l. IsPlaced allowed [] l slots) w.1 placed)
