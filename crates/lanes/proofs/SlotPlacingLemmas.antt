-- The earliest placement in slots is the earliest in the frames of these slots.
use Rattle.std.proofs.Common.{◌≡◌, ◌<◌, ◌≤◌, ℕ, List, [], ◌∷◌, ◌++◌, map, refl, sym, ap, ◌∙◌, subst, arith, ⊎_elim}
use Rattle.std.proofs.lemmas.Bool.{cases_lt}
use Rattle.std.proofs.lemmas.List.{map-append}
use Rattle.cue_lists.specs.Cadences.{slot_frame}
use Rattle.cue_lists.specs.Cadence.{Cadence}
use Rattle.cue_lists.specs.Cadence.TheVariants.{EveryFrame, EvenFrames, OddFrames}
use Rattle.lanes.specs.Placing.{IsEarliest, IsPlaced, NoLater}
use Rattle.lanes.specs.SlotPlacing.{EarliestInFrames, IsRising, all_in_frames, allowed_in_frames}

frames_rise : (c : Cadence) → IsRising (slot_frame c)
frames_rise EveryFrame j k less = less
frames_rise EvenFrames j k less = omega arith
frames_rise OddFrames j k less = omega arith

module _ {U : Type 0} (frame : ℕ → ℕ) (rising : IsRising frame) (allowed : List (U × ℕ) → U → ℕ → Type 0) where
  rising_low : (j k : ℕ) → j ≤ k → frame j ≤ frame k
  rising_low j k low =
      ⊎_elim
      (λ (less : j < k). let higher : frame j < frame k = rising j k less in omega arith)
      (λ (most : k ≤ j). let same : j ≡ k = omega arith in let is : frame j ≡ frame k = ap frame same in omega arith)
      (cases_lt j k)

  one_slot : (j k : ℕ) → frame j ≡ frame k → j ≡ k
  one_slot j k same =
      ⊎_elim
      (λ (less : j < k). let higher : frame j < frame k = rising j k less in absurd (omega arith))
      (λ (most : k ≤ j). ⊎_elim
      (λ (more : k < j). let higher : frame k < frame j = rising k j more in absurd (omega arith))
      (λ (least : j ≤ k). omega arith)
      (cases_lt k j))
      (cases_lt j k)

  one_pair : (u v : U) (j k : ℕ) → u ≡ v → j ≡ k → ◌≡◌ {A = U × ℕ} (u, j) (v, k)
  one_pair u v j k unit slot = rw (unit, slot) refl

  one_placed : (xs ys : List (U × ℕ)) → all_in_frames frame xs ≡ all_in_frames frame ys → xs ≡ ys
  one_placed [] [] same = refl
  one_placed [] (y ∷ ys) same = cc
  one_placed (x ∷ xs) [] same = cc
  one_placed (x ∷ xs) (y ∷ ys) same =
      let heads : ◌≡◌ {A = U × ℕ} (x.0, frame x.1) (y.0, frame y.1) = cc in
      let tails : all_in_frames frame xs ≡ all_in_frames frame ys = cc in
      let first : x ≡ y = one_pair x.0 y.0 x.1 y.1 (ap (λ (p : U × ℕ). p.0) heads) (one_slot x.1 y.1 (ap (λ (p : U × ℕ). p.1) heads)) in
      let rest : xs ≡ ys = one_placed xs ys tails in
      ap (λ z. z ∷ xs) first ∙ ap (λ zs. y ∷ zs) rest

  -- units in slots are in frames
  placed_in_frames : (before : List (U × ℕ)) (us : List U) (ks : List ℕ) → IsPlaced allowed before us ks
      → IsPlaced (allowed_in_frames frame allowed) (all_in_frames frame before) us (map frame ks)
  placed_in_frames before [] [] placed = tt
  placed_in_frames before [] (k ∷ ks) placed = absurd placed
  placed_in_frames before (u ∷ us) [] placed = absurd placed
  placed_in_frames before (u ∷ us) (k ∷ ks) placed = (
    (before, k, refl, refl, placed.0),
    subst (λ b. IsPlaced (allowed_in_frames frame allowed) b us (map frame ks))
        (map-append (λ (p : U × ℕ). (p.0, frame p.1)) before ((u, k) ∷ []))
        (placed_in_frames (before ++ (u, k) ∷ []) us ks placed.1),
  )

  -- and units in frames are in slots
  placed_in_slots : (before : List (U × ℕ)) (us : List U) (fs : List ℕ)
      → IsPlaced (allowed_in_frames frame allowed) (all_in_frames frame before) us fs → (ks : List ℕ) × (fs ≡ map frame ks) × IsPlaced allowed before us ks
  placed_in_slots before [] [] placed = ([], refl, tt)
  placed_in_slots before [] (f ∷ fs) placed = absurd placed
  placed_in_slots before (u ∷ us) [] placed = absurd placed
  placed_in_slots before (u ∷ us) (f ∷ fs) placed =
      let here = placed.0 in
      let k = here.1 in
      let same : before ≡ here.0 = one_placed before here.0 here.2 in
      let at : f ≡ frame k = here.3 in
      let own : allowed before u k = subst (λ b. allowed b u k) (sym same) here.4 in
      let joined : all_in_frames frame before ++ (u, f) ∷ [] ≡ all_in_frames frame (before ++ (u, k) ∷ []) =
      ap (λ g. all_in_frames frame before ++ (u, g) ∷ []) at ∙ sym (map-append (λ (p : U × ℕ). (p.0, frame p.1)) before ((u, k) ∷ [])) in
      let rest = placed_in_slots (before ++ (u, k) ∷ []) us fs (subst (λ b. IsPlaced (allowed_in_frames frame allowed) b us fs) joined placed.1) in
      (k ∷ rest.0, ap (λ g. g ∷ fs) at ∙ ap (λ gs. frame k ∷ gs) rest.1, (own, rest.2))

  -- frames are no later where slots are
  no_later_in_frames : (js ks : List ℕ) → NoLater js ks → NoLater (map frame js) (map frame ks)
  no_later_in_frames [] [] low = tt
  no_later_in_frames [] (k ∷ ks) low = absurd low
  no_later_in_frames (j ∷ js) [] low = absurd low
  no_later_in_frames (j ∷ js) (k ∷ ks) low = (rising_low j k low.0, no_later_in_frames js ks low.1)

  pub earliest_in_frames : (us : List U) (ks : List ℕ) → IsEarliest allowed us ks → IsEarliest (allowed_in_frames frame allowed) us (map frame ks)
  earliest_in_frames us ks earliest = record {
    placed = placed_in_frames [] us ks earliest.placed;
    first = λ gs placed.
        let slots = placed_in_slots [] us gs placed in
        subst (λ l. NoLater (map frame ks) l) (sym slots.1) (no_later_in_frames ks slots.0 (earliest.first slots.0 slots.2));
  }

-- with every cadence
pub every_earliest : {U : Type 0} (allowed : List (U × ℕ) → U → ℕ → Type 0) → EarliestInFrames allowed
every_earliest allowed cadence us ks earliest = earliest_in_frames (slot_frame cadence) (frames_rise cadence) allowed us ks earliest
