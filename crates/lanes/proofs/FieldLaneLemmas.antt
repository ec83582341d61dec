-- A field's lane owes what the law of one more unit asks, and its earliest placement is its first fit.
use Rattle.std.proofs.Common.{◌≡◌, ℕ, ◌+◌, ◌≤◌, List, [], ◌∷◌, ◌++◌, arith, fold}
use Rattle.std.proofs.lemmas.List.Sums.{fold-append}
use Rattle.std.specs.List.{zip}
use Rattle.line21_author.specs.declared.event.Event.{Event}
use Rattle.lanes.specs.declared.chunk.FieldChunk.{FieldChunk}
use Rattle.lanes.specs.Placing.{IsEarliest, NoLater}
use Rattle.lanes.specs.OneMore.{FitsEarlier, OneMore}
use Rattle.lanes.specs.FieldLane.{slots_of, end_of, IsAllowedInField, field_lane}
use Rattle.lanes.specs.FirstFit.{EarliestIsFirstFit}
use Rattle.lanes.proofs.FirstFitLemmas.{earliest_is_first_fit}
use Rattle.lanes.proofs.PlacingLemmas.{one_more}

-- the end after one more unit
pub end_push : (before : List (FieldChunk × ℕ)) (u : FieldChunk) (f : ℕ) → end_of (before ++ (u, f) ∷ []) ≡ f + slots_of u
end_push before u f = fold-append _ _ before ((u, f) ∷ [])

-- what is allowed after an end is allowed after an earlier one
pub allowed_earlier : (events : List Event) (d e : ℕ) (u : FieldChunk) (f : ℕ) → d ≤ e → IsAllowedInField events e u f → IsAllowedInField events d u f
allowed_earlier events d e u f h a =
    record { behind = omega (arith, a.behind, h); loaded = a.loaded; ended = a.ended; free = a.free }

-- the end after units that stand no later is no later
ends_no_later : (us : List FieldChunk) (fs gs : List ℕ) (d e : ℕ) → d ≤ e → NoLater fs gs
    → fold (λ (end : ℕ) (placed : FieldChunk × ℕ). placed.1 + slots_of placed.0) d (zip us fs)
    ≤ fold (λ (end : ℕ) (placed : FieldChunk × ℕ). placed.1 + slots_of placed.0) e (zip us gs)
ends_no_later [] fs gs d e h n = h
ends_no_later (u ∷ us) [] [] d e h n = h
ends_no_later (u ∷ us) [] (g ∷ gs) d e h n = absurd n
ends_no_later (u ∷ us) (f ∷ fs) [] d e h n = absurd n
ends_no_later (u ∷ us) (f ∷ fs) (g ∷ gs) d e h n =
    ends_no_later us fs gs (f + slots_of u) (g + slots_of u) (let l : f ≤ g = n.0 in omega arith) n.1

-- what fits after later units fits after earlier ones
pub fits_earlier : (events : List Event) → FitsEarlier (field_lane events)
fits_earlier events us fs gs u g p q n a = allowed_earlier events _ _ u g (ends_no_later us fs gs 0 0 (omega arith) n) a

-- the law of one more unit in a field's lane
pub lane_one_more : (events : List Event) (us : List FieldChunk) (fs : List ℕ) (u : FieldChunk) → IsEarliest (field_lane events) us fs → OneMore (field_lane events) us fs u
lane_one_more events us fs u e = one_more (field_lane events) (fits_earlier events) us fs u e

-- its earliest placement is its first fit
pub lane_first_fit : (events : List Event) → EarliestIsFirstFit (field_lane events)
lane_first_fit events = earliest_is_first_fit (field_lane events) (fits_earlier events)
