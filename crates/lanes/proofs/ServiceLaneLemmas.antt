-- A service's lane owes what the law of one more unit asks, and its placements keep within the room of frames and delays.
use Rattle.std.proofs.Common.{◌≡◌, ℕ, ◌+◌, ◌<◌, ◌≤◌, Bool, true, false, List, [], ◌∷◌, ◌++◌, refl, sym, subst, arith, append_assoc, append-nil}
use Rattle.std.specs.Prelude.{Option, Some, if◌then◌else◌}
use Rattle.std.specs.List.{zip}
use Rattle.std.proofs.lemmas.Bool.Decides.{nat_tests}
use Rattle.std.proofs.lemmas.List.Sums.{sum_by-cons, sum_by_push}
use Rattle.lanes.specs.Chunks.{ServiceChunk}
use Rattle.lanes.specs.FirstFit.{EarliestIsFirstFit}
use Rattle.lanes.specs.OneMore.{FitsEarlier, OneMore}
use Rattle.lanes.specs.Placing.{IsPlaced, IsEarliest, NoLater}
use Rattle.lanes.specs.ServiceLane.{AreUpTo, IsAllowedInService, IsWithinRoom, KeepsRoom, bytes_between, chunk_size, is_between, most_in_delay, used}
use Rattle.lanes.proofs.FirstFitLemmas.{earliest_is_first_fit}
use Rattle.lanes.proofs.PlacingLemmas.{one_more}

-- units that stand no later are up to a frame where the others are
up_to_earlier : (g : ℕ) (us : List ServiceChunk) (fs gs : List ℕ) → NoLater fs gs → AreUpTo g (zip us gs) → AreUpTo g (zip us fs)
up_to_earlier g [] fs gs low all = tt
up_to_earlier g (u ∷ us) [] gs low all = tt
up_to_earlier g (u ∷ us) (f ∷ fs) [] low all = absurd low
up_to_earlier g (u ∷ us) (f ∷ fs) (h ∷ gs) low all = (omega (arith, low.0, all.0), up_to_earlier g us fs gs low.1 all.1)

-- where a frame lies in a batch, a later one lies in it too, up to its end
between_later : (from to f h g : ℕ) → f ≤ h → h ≤ g → g < to → is_between from to f ≡ true → is_between from to h ≡ true
between_later from to f h g low high below is = grind (arith, nat_tests)

-- so a unit has in the batch what it has where it stands later
bytes_earlier : (from to g : ℕ) (u : ServiceChunk) (f h : ℕ) → f ≤ h → h ≤ g → g < to → bytes_between from to (u, f) ≤ bytes_between from to (u, h)
bytes_earlier from to g u f h low high below = at (is_between from to f) (is_between from to h) refl refl
  where
    at : (b c : Bool) → is_between from to f ≡ b → is_between from to h ≡ c
        → (if b then chunk_size u else 0) ≤ (if c then chunk_size u else 0)
    at false false p q = omega arith
    at false true p q = let least : 0 ≤ chunk_size u = omega arith in least
    at true true p q = let same : chunk_size u ≤ chunk_size u = omega arith in same
    at true false p q = let both = between_later from to f h g low high below p in cc

-- and all together
used_earlier : (from to g : ℕ) (us : List ServiceChunk) (fs gs : List ℕ) → NoLater fs gs → AreUpTo g (zip us gs) → g < to
    → used from to (zip us fs) ≤ used from to (zip us gs)
used_earlier from to g [] fs gs low all below = omega arith
used_earlier from to g (u ∷ us) [] [] low all below = omega arith
used_earlier from to g (u ∷ us) [] (h ∷ gs) low all below = absurd low
used_earlier from to g (u ∷ us) (f ∷ fs) [] low all below = absurd low
used_earlier from to g (u ∷ us) (f ∷ fs) (h ∷ gs) low all below =
    let first = bytes_earlier from to g u f h low.0 all.0 below in
    let rest = used_earlier from to g us fs gs low.1 all.1 below in
    let left = sum_by-cons (bytes_between from to) (u, f) (zip us fs) in
    let right = sum_by-cons (bytes_between from to) (u, h) (zip us gs) in
    rw (left, right) (omega (arith, first, rest))

-- what fits after later units fits after earlier ones
pub chunks_fit_earlier : (room : ℕ → ℕ) (ends : ℕ → Option ℕ) → FitsEarlier (IsAllowedInService room ends)
chunks_fit_earlier room ends us fs gs u g p q low a = record {
  order = up_to_earlier g us fs gs low a.order;
  loaded = a.loaded;
  ended = a.ended;
  fits =
      let less = used_earlier g (g + 1) g us fs gs low a.order (omega arith) in omega (arith, less, a.fits);
  delayed = λ start end is from to.
      let less = used_earlier start end g us fs gs low a.order to in
      let most = a.delayed start end is from to in
      omega (arith, less, most);
}

-- the law of one more unit in a service's lane
pub chunks_one_more : (room : ℕ → ℕ) (ends : ℕ → Option ℕ) (us : List ServiceChunk) (fs : List ℕ) (u : ServiceChunk)
    → IsEarliest (IsAllowedInService room ends) us fs → OneMore (IsAllowedInService room ends) us fs u
chunks_one_more room ends us fs u e = one_more (IsAllowedInService room ends) (chunks_fit_earlier room ends) us fs u e

-- its earliest placement is its first fit
pub chunks_first_fit : (room : ℕ → ℕ) (ends : ℕ → Option ℕ) → EarliestIsFirstFit (IsAllowedInService room ends)
chunks_first_fit room ends = earliest_is_first_fit (IsAllowedInService room ends) (chunks_fit_earlier room ends)

-- one more placed unit has what it has
used_push : (from to : ℕ) (before : List (ServiceChunk × ℕ)) (u : ServiceChunk) (f : ℕ)
    → used from to (before ++ (u, f) ∷ []) ≡ used from to before + bytes_between from to (u, f)
used_push from to before u f = sum_by_push (bytes_between from to) before (u, f)

-- the frame of a batch of one
between_one : (frame f : ℕ) → is_between frame (frame + 1) f ≡ true → f ≡ frame
between_one frame f is = grind (arith, nat_tests)

between_parts : (from to f : ℕ) → is_between from to f ≡ true → (from ≤ f) × (f < to)
between_parts from to f is = (grind (arith, nat_tests), grind (arith, nat_tests))

-- one more unit where it is allowed keeps within the room
within_push : (room : ℕ → ℕ) (ends : ℕ → Option ℕ) (before : List (ServiceChunk × ℕ)) (u : ServiceChunk) (f : ℕ) → IsWithinRoom room ends before
    → IsAllowedInService room ends before u f → IsWithinRoom room ends (before ++ (u, f) ∷ [])
within_push room ends before u f within a = record {
  frames = λ frame. rw (used_push frame (frame + 1) before u f) (in_frame frame (is_between frame (frame + 1) f) refl);
  delays = λ start end is. rw (used_push start end before u f) (in_delay start end is (is_between start end f) refl);
}
  where
    in_frame : (frame : ℕ) (b : Bool) → is_between frame (frame + 1) f ≡ b
        → used frame (frame + 1) before + (if b then chunk_size u else 0) ≤ room frame
    in_frame frame false p = let most : used frame (frame + 1) before + 0 ≤ room frame = omega (arith, within.frames frame) in most
    in_frame frame true p =
        subst (λ (here : ℕ). used here (here + 1) before + chunk_size u ≤ room here) (between_one frame f p) a.fits

    in_delay : (start end : ℕ) → ends start ≡ Some end → (b : Bool) → is_between start end f ≡ b
        → used start end before + (if b then chunk_size u else 0) ≤ most_in_delay
    in_delay start end is false p = let most : used start end before + 0 ≤ 125 = omega (arith, within.delays start end is) in most
    in_delay start end is true p = let parts = between_parts start end f p in a.delayed start end is parts.0 parts.1

-- so does each placement after units that do
within_behind : (room : ℕ → ℕ) (ends : ℕ → Option ℕ) (before : List (ServiceChunk × ℕ)) (us : List ServiceChunk) (fs : List ℕ) → IsWithinRoom room ends before
    → IsPlaced (IsAllowedInService room ends) before us fs → IsWithinRoom room ends (before ++ zip us fs)
within_behind room ends before [] [] within p = subst (λ l. IsWithinRoom room ends l) (sym (append-nil before)) within
within_behind room ends before [] (f ∷ fs) within p = absurd p
within_behind room ends before (u ∷ us) [] within p = absurd p
within_behind room ends before (u ∷ us) (f ∷ fs) within p =
    subst (λ l. IsWithinRoom room ends l) (append_assoc before ((u, f) ∷ []) (zip us fs))
    (within_behind room ends (before ++ (u, f) ∷ []) us fs (within_push room ends before u f within p.0) p.1)

-- every placement keeps within the room
pub placed_within : (room : ℕ → ℕ) (ends : ℕ → Option ℕ) → KeepsRoom room ends
placed_within room ends us fs p = within_behind room ends [] us fs (record { frames = λ frame. omega arith; delays = λ start end is. omega arith }) p
