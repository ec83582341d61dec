-- A lane beside another: what fits after later units fits after earlier ones, so that first fit is its earliest placement.
use Rattle.std.proofs.Common.{◌≡◌, ℕ, ◌+◌, ◌<◌, ◌≤◌, Bool, true, false, List, [], ◌∷◌, ◌++◌, refl, sym, ap, subst, arith, cond, fold, ⊎_elim}
use Rattle.std.specs.Prelude.{All}
use Rattle.std.proofs.lemmas.Bool.{cases_lt}
use Rattle.std.proofs.lemmas.List.Elements.{All-head, All-tail}
use Rattle.std.proofs.lemmas.List.Sums.{fold-append}
use Rattle.std.specs.List.{zip}
use Rattle.lanes.specs.FirstFit.{IsFirst, IsFirstFit}
use Rattle.lanes.specs.OneMore.{FitsEarlier}
use Rattle.lanes.specs.Placing.{IsEarliest, IsPlaced, NoLater}
use Rattle.lanes.proofs.FirstFitLemmas.{earliest_is_first_fit}
use Rattle.dual_fields.specs.Placing.{FirstFitIsEarliest, LanesAreOne}
use Rattle.dual_fields.specs.Alone.{lane_alone}
use Rattle.dual_fields.specs.Parts.{IsBegun, part_slots}
use Rattle.dual_fields.specs.ResumedLane.{HasTwo, end_of_parts, resumed_lane}
use Rattle.dual_fields.specs.Slots.{AreSound, Slots}
use Rattle.dual_fields.specs.declared.part.Part.{Part}

-- the end after one more unit
pub end_push : (before : List (Part × ℕ)) (u : Part) (f : ℕ) → end_of_parts (before ++ (u, f) ∷ []) ≡ f + part_slots u
end_push before u f = fold-append _ _ before ((u, f) ∷ [])

-- the end after units that stand no later is no later
ends_no_later : (us : List Part) (fs gs : List ℕ) (d e : ℕ) → d ≤ e → NoLater fs gs
    → fold (λ (end : ℕ) (placed : Part × ℕ). placed.1 + part_slots placed.0) d (zip us fs)
    ≤ fold (λ (end : ℕ) (placed : Part × ℕ). placed.1 + part_slots placed.0) e (zip us gs)
ends_no_later [] fs gs d e h n = h
ends_no_later (u ∷ us) [] [] d e h n = h
ends_no_later (u ∷ us) [] (g ∷ gs) d e h n = absurd n
ends_no_later (u ∷ us) (f ∷ fs) [] d e h n = absurd n
ends_no_later (u ∷ us) (f ∷ fs) (g ∷ gs) d e h n =
    ends_no_later us fs gs (f + part_slots u) (g + part_slots u) (let l : f ≤ g = n.0 in omega arith) n.1

module _ (slots : Slots) where
  -- said without the unit before, what fits after later units fits after earlier ones
  pub fits_earlier : FitsEarlier (lane_alone slots)
  fits_earlier us fs gs u g p q n a = record {
    behind = omega (arith, a.behind, ends_no_later us fs gs 0 0 (omega arith) n);
    loaded = a.loaded;
    ended = a.ended;
    free = a.free;
    resumed = a.resumed;
  }

  -- any foreign slot before the end of the units placed so far has two neighbouring free ones after it
  abbrev HaveTwo : List (Part × ℕ) → Type 0
  HaveTwo before = (m : ℕ) → m < end_of_parts before → slots.foreign m ≡ true → HasTwo slots m (end_of_parts before)

  have_none : HaveTwo []
  have_none m below is = absurd (omega arith)

  wider : (m n k : ℕ) → HasTwo slots m n → n ≤ k → HasTwo slots m k
  wider m n k two low = record { at = two.at; behind = two.behind; before = omega (arith, two.before); first = two.first; second = two.second }

  module _ (before : List (Part × ℕ)) (u : Part) (f : ℕ) (have : HaveTwo before) where
    to_alone : resumed_lane slots before u f → lane_alone slots before u f
    to_alone a = record {
      behind = a.behind;
      loaded = a.loaded;
      ended = a.ended;
      free = a.free;
      resumed = λ later m below is.
          ⊎_elim
          (λ (low : m < end_of_parts before). wider m (end_of_parts before) f (have m low is) a.behind)
          (λ (high : end_of_parts before ≤ m). a.resumed later m high below is)
          (cases_lt m (end_of_parts before));
    }

    from_alone : lane_alone slots before u f → resumed_lane slots before u f
    from_alone a = record {
      behind = a.behind;
      loaded = a.loaded;
      ended = a.ended;
      free = a.free;
      resumed = λ later m high below is. a.resumed later m below is;
    }

    module _ (sound : AreSound slots) (begun : IsBegun u) (a : resumed_lane slots before u f) where
      two_slots : u.chunk.unit.doubled ≡ true → part_slots u ≡ 2
      two_slots doubled = ap (λ b. cond b 2 1) doubled

      have_up_to : (m : ℕ) → m < f + part_slots u → slots.foreign m ≡ true → HasTwo slots m (f + part_slots u)
      have_up_to m below is =
          ⊎_elim
          (λ (low : m < f). by_later low u.later refl)
          (λ (high : f ≤ m). let free : slots.free m ≡ true = a.free m high below in let none : slots.free m ≡ false = sound m is in absurd (cc))
          (cases_lt m f)
        where
          by_later : m < f → (b : Bool) → u.later ≡ b → HasTwo slots m (f + part_slots u)
          by_later low true later = wider m f (f + part_slots u) ((to_alone a).resumed later m low is) (omega arith)
          by_later low false first =
              let two : part_slots u ≡ 2 = two_slots (begun first) in
              record {
                at = f;
                behind = low;
                before = omega arith;
                first = a.free f (omega arith) (omega arith);
                second = a.free (f + 1) (omega arith) (omega arith);
              }

      have_more : HaveTwo (before ++ (u, f) ∷ [])
      have_more =
          subst (λ end. (m : ℕ) → m < end → slots.foreign m ≡ true → HasTwo slots m end) (sym (end_push before u f)) have_up_to

  module _ (sound : AreSound slots) where
    placed_alone : (before : List (Part × ℕ)) (us : List Part) (fs : List ℕ) → HaveTwo before → All IsBegun us
        → IsPlaced (resumed_lane slots) before us fs → IsPlaced (lane_alone slots) before us fs
    placed_alone before [] [] have begun placed = tt
    placed_alone before [] (f ∷ fs) have begun placed = placed
    placed_alone before (u ∷ us) [] have begun placed = placed
    placed_alone before (u ∷ us) (f ∷ fs) have begun placed = (
      to_alone before u f have placed.0,
      placed_alone (before ++ (u, f) ∷ []) us fs (have_more before u f have sound (All-head IsBegun u us begun) placed.0) (All-tail IsBegun u us begun) placed.1,
    )

    placed_again : (before : List (Part × ℕ)) (us : List Part) (fs : List ℕ) → HaveTwo before → All IsBegun us
        → IsPlaced (lane_alone slots) before us fs → IsPlaced (resumed_lane slots) before us fs
    placed_again before [] [] have begun placed = tt
    placed_again before [] (f ∷ fs) have begun placed = placed
    placed_again before (u ∷ us) [] have begun placed = placed
    placed_again before (u ∷ us) (f ∷ fs) have begun placed =
        let here : resumed_lane slots before u f = from_alone before u f have placed.0 in
        (here, placed_again (before ++ (u, f) ∷ []) us fs (have_more before u f have sound (All-head IsBegun u us begun) here) (All-tail IsBegun u us begun) placed.1)

    same_first : (P Q : ℕ → Type 0) (n : ℕ) → ((m : ℕ) → P m → Q m) → ((m : ℕ) → Q m → P m) → IsFirst P n → IsFirst Q n
    same_first P Q n to from is = record { holds = to n is.holds; first = λ other q. is.first other (from other q) }

    fit_again : (before : List (Part × ℕ)) (us : List Part) (fs : List ℕ) → HaveTwo before → All IsBegun us
        → IsFirstFit (lane_alone slots) before us fs → IsFirstFit (resumed_lane slots) before us fs
    fit_again before [] [] have begun fit = tt
    fit_again before [] (f ∷ fs) have begun fit = fit
    fit_again before (u ∷ us) [] have begun fit = fit
    fit_again before (u ∷ us) (f ∷ fs) have begun fit =
        let here : IsFirst (resumed_lane slots before u) f =
        same_first (lane_alone slots before u) (resumed_lane slots before u) f (λ m a. from_alone before u m have a) (λ m a. to_alone before u m have a) fit.0 in
        (here, fit_again (before ++ (u, f) ∷ []) us fs (have_more before u f have sound (All-head IsBegun u us begun) here.holds) (All-tail IsBegun u us begun) fit.1)

    fit_alone : (before : List (Part × ℕ)) (us : List Part) (fs : List ℕ) → HaveTwo before → All IsBegun us
        → IsFirstFit (resumed_lane slots) before us fs → IsFirstFit (lane_alone slots) before us fs
    fit_alone before [] [] have begun fit = tt
    fit_alone before [] (f ∷ fs) have begun fit = fit
    fit_alone before (u ∷ us) [] have begun fit = fit
    fit_alone before (u ∷ us) (f ∷ fs) have begun fit = (
      same_first (resumed_lane slots before u) (lane_alone slots before u) f (λ m a. to_alone before u m have a) (λ m a. from_alone before u m have a) fit.0,
      fit_alone (before ++ (u, f) ∷ []) us fs (have_more before u f have sound (All-head IsBegun u us begun) fit.0.holds) (All-tail IsBegun u us begun) fit.1,
    )

-- both lanes have the same placements
pub lanes_one : LanesAreOne
lanes_one slots sound us begun fs =
    (placed_alone slots sound [] us fs (have_none slots) begun, placed_again slots sound [] us fs (have_none slots) begun)

pub earliest_alone : (slots : Slots) → AreSound slots → (us : List Part) → All IsBegun us → (fs : List ℕ)
    → IsEarliest (resumed_lane slots) us fs → IsEarliest (lane_alone slots) us fs
earliest_alone slots sound us begun fs is = record {
  placed = (lanes_one slots sound us begun fs).0 is.placed;
  first = λ gs placed. is.first gs ((lanes_one slots sound us begun gs).1 placed);
}

pub earliest_again : (slots : Slots) → AreSound slots → (us : List Part) → All IsBegun us → (fs : List ℕ)
    → IsEarliest (lane_alone slots) us fs → IsEarliest (resumed_lane slots) us fs
earliest_again slots sound us begun fs is = record {
  placed = (lanes_one slots sound us begun fs).1 is.placed;
  first = λ gs placed. is.first gs ((lanes_one slots sound us begun gs).0 placed);
}

-- first fit is the earliest placement
pub first_fit_earliest : FirstFitIsEarliest
first_fit_earliest slots sound us begun fs = (
  λ is. fit_again slots sound [] us fs (have_none slots) begun
      ((earliest_is_first_fit (lane_alone slots) (fits_earlier slots) us fs).0 (earliest_alone slots sound us begun fs is)),
  λ fit. earliest_again slots sound us begun fs
      ((earliest_is_first_fit (lane_alone slots) (fits_earlier slots) us fs).1 (fit_alone slots sound [] us fs (have_none slots) begun fit)),
)

-- what is allowed without a word of the unit before is allowed
pub from_lane_alone : (slots : Slots) (before : List (Part × ℕ)) (u : Part) (f : ℕ) → lane_alone slots before u f → resumed_lane slots before u f
from_lane_alone slots before u f a =
    record { behind = a.behind; loaded = a.loaded; ended = a.ended; free = a.free; resumed = λ later m high low is. a.resumed later m low is }
