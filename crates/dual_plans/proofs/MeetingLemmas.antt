-- Whether cues of two lists clash, and the least that do.
use Rattle.std.proofs.Common.{◌≡◌, ◌⊎◌, inl, inr, ⊎_elim, ℕ, zero, suc, ◌+◌, ◌<◌, ◌≤◌, List, [], ◌∷◌, Option, Some, None, refl, sym, subst, arith}
use Rattle.std.specs.Prelude.{⊤}
use Rattle.std.proofs.lemmas.Bool.{cases_eq, cases_lt}
use Rattle.line21_codes.specs.declared.channels.FieldNumber.TheVariants.{One, Two}
use Rattle.cue_lists.specs.Listing.{Listing}
use Rattle.dual_plans.specs.Clashes.{ALeastClashIsThereOrNone, HoldsFor, IsClash, IsFieldClash, IsLeast, list_events}
use Rattle.dual_plans.specs.declared.clash.Clash.{Clash}
use Rattle.dual_plans.specs.declared.cue_event.CueEvent.{CueEvent}
use Rattle.frame_carrier.specs.Planned.{authored_channel}

abbrev pub Decided : Type 0 → Type 0
Decided P = P ⊎ (P → ⊥)

-- the least number of which a decided fact holds, where it holds of some
abbrev Least : (ℕ → Type 0) → Type 0
Least P = (m : ℕ) × P m × ((k : ℕ) → P k → m ≤ k)

module _ (P : ℕ → Type 0) (decide : (n : ℕ) → Decided (P n)) where
  least_below : (n : ℕ) → Least P ⊎ ((k : ℕ) → k < n → P k → ⊥)
  least_below zero = inr (λ k below is. absurd (omega arith))
  least_below (suc n) = by_rest (least_below n) (decide n)
    where
      none_up : ((k : ℕ) → k < n → P k → ⊥) → (P n → ⊥) → (k : ℕ) → k < suc n → P k → ⊥
      none_up none here k below is =
          elim (cases_eq k n) [
            | inl same ↦ here (subst P same is)
            | inr other ↦ none k (omega arith) is
          ]

      no_less : ((k : ℕ) → k < n → P k → ⊥) → (k : ℕ) → P k → n ≤ k
      no_less none k is =
          elim (cases_lt k n) [
            | inl low ↦ absurd (none k low is)
            | inr high ↦ high
          ]

      by_rest : Least P ⊎ ((k : ℕ) → k < n → P k → ⊥) → Decided (P n) → Least P ⊎ ((k : ℕ) → k < suc n → P k → ⊥)
      by_rest (inl found) here = inl found
      by_rest (inr none) (inl is) = inl (n, is, no_less none)
      by_rest (inr none) (inr denied) = inr (none_up none denied)

  least_of : (n : ℕ) → P n → Least P
  least_of n is = by_rest (least_below (suc n))
    where
      by_rest : Least P ⊎ ((k : ℕ) → k < suc n → P k → ⊥) → Least P
      by_rest (inl found) = found
      by_rest (inr none) = absurd (none n (omega arith) is)

-- whether events of cues of which these are decided facts hold one slot
module _ (P Q : ℕ → Type 0) (decide_second : (n : ℕ) → Decided (P n)) (decide_first : (n : ℕ) → Decided (Q n)) where
  abbrev Meets : List CueEvent → List CueEvent → Type 0
  Meets firsts seconds = (c : ℕ) × (d : ℕ) × P c × Q d × IsClash firsts seconds c d

  pair_meets : (x y : CueEvent) → Decided (Meets (x ∷ []) (y ∷ []))
  pair_meets x y =
      elim (decide_second y.cue) [
        | inr denied ↦ inr (λ m. denied (subst P (second_is m) m.2))
        | inl second ↦ elim (decide_first x.cue) [
          | inr denied ↦ inr (λ m. denied (subst Q (first_is m) m.3))
          | inl first ↦ elim (cases_lt (x.slot + 1) y.slot) [
            | inl before ↦ inr (λ m. apart m (inl before))
            | inr near ↦ elim (cases_lt (y.slot + 1) x.slot) [
              | inl behind ↦ inr (λ m. apart m (inr behind))
              | inr close ↦ inl (y.cue, x.cue, second, first, meet near close)
            ]
          ]
        ]
      ]
    where
      second_is : (m : Meets (x ∷ []) (y ∷ [])) → m.0 ≡ y.cue
      second_is m = ⊎_elim (λ (held : (y.cue ≡ m.0) × (y.slot ≤ m.4.slot) × (m.4.slot ≤ y.slot + 1)). sym held.0) (λ (none : ⊥). absurd none) m.4.of_second

      first_is : (m : Meets (x ∷ []) (y ∷ [])) → m.1 ≡ x.cue
      first_is m = ⊎_elim (λ (held : (x.cue ≡ m.1) × (x.slot ≤ m.4.slot) × (m.4.slot ≤ x.slot + 1)). sym held.0) (λ (none : ⊥). absurd none) m.4.of_first

      apart : Meets (x ∷ []) (y ∷ []) → (x.slot + 1 < y.slot) ⊎ (y.slot + 1 < x.slot) → ⊥
      apart m far =
          ⊎_elim
          (λ (one : (x.cue ≡ m.1) × (x.slot ≤ m.4.slot) × (m.4.slot ≤ x.slot + 1)).
          ⊎_elim
          (λ (two : (y.cue ≡ m.0) × (y.slot ≤ m.4.slot) × (m.4.slot ≤ y.slot + 1)).
          ⊎_elim
          (λ (before : x.slot + 1 < y.slot). absurd (omega (arith, one.2, two.1)))
          (λ (behind : y.slot + 1 < x.slot). absurd (omega (arith, one.1, two.2)))
          far)
          (λ (none : ⊥). none)
          m.4.of_second)
          (λ (none : ⊥). none)
          m.4.of_first

      meet : y.slot ≤ x.slot + 1 → x.slot ≤ y.slot + 1 → IsClash (x ∷ []) (y ∷ []) y.cue x.cue
      meet near close =
          elim (cases_lt x.slot y.slot) [
            | inl before ↦ record { slot = y.slot; of_first = inl (refl, omega arith, near); of_second = inl (refl, omega arith, omega arith) }
            | inr behind ↦ record { slot = x.slot; of_first = inl (refl, omega arith, omega arith); of_second = inl (refl, behind, close) }
          ]

  -- one event among many, and many among many
  one_meets : (x : CueEvent) (ys : List CueEvent) → Decided (Meets (x ∷ []) ys)
  one_meets x [] = inr (λ m. m.4.of_second)
  one_meets x (y ∷ ys) = by_rest (pair_meets x y) (one_meets x ys)
    where
      to_all : Meets (x ∷ []) ys → Meets (x ∷ []) (y ∷ ys)
      to_all m = (m.0, m.1, m.2, m.3, record { slot = m.4.slot; of_first = m.4.of_first; of_second = inr m.4.of_second })

      from_one : Meets (x ∷ []) (y ∷ []) → Meets (x ∷ []) (y ∷ ys)
      from_one m = (m.0, m.1, m.2, m.3, record { slot = m.4.slot; of_first = m.4.of_first; of_second = wider m.4.of_second })
        where
          wider : HoldsFor (y ∷ []) m.0 m.4.slot → HoldsFor (y ∷ ys) m.0 m.4.slot
          wider (inl held) = inl held
          wider (inr none) = absurd none

      neither : (Meets (x ∷ []) (y ∷ []) → ⊥) → (Meets (x ∷ []) ys → ⊥) → Meets (x ∷ []) (y ∷ ys) → ⊥
      neither one rest m = by_event m.4.of_second
        where
          by_event : HoldsFor (y ∷ ys) m.0 m.4.slot → ⊥
          by_event (inl held) = one (m.0, m.1, m.2, m.3, record { slot = m.4.slot; of_first = m.4.of_first; of_second = inl held })
          by_event (inr held) = rest (m.0, m.1, m.2, m.3, record { slot = m.4.slot; of_first = m.4.of_first; of_second = held })

      by_rest : Decided (Meets (x ∷ []) (y ∷ [])) → Decided (Meets (x ∷ []) ys) → Decided (Meets (x ∷ []) (y ∷ ys))
      by_rest (inl one) rest = inl (from_one one)
      by_rest (inr none) (inl rest) = inl (to_all rest)
      by_rest (inr none) (inr others) = inr (neither none others)

  pub all_meet : (xs ys : List CueEvent) → Decided (Meets xs ys)
  all_meet [] ys = inr (λ m. m.4.of_first)
  all_meet (x ∷ xs) ys = by_rest (one_meets x ys) (all_meet xs ys)
    where
      to_all : Meets xs ys → Meets (x ∷ xs) ys
      to_all m = (m.0, m.1, m.2, m.3, record { slot = m.4.slot; of_first = inr m.4.of_first; of_second = m.4.of_second })

      from_one : Meets (x ∷ []) ys → Meets (x ∷ xs) ys
      from_one m = (m.0, m.1, m.2, m.3, record { slot = m.4.slot; of_first = wider m.4.of_first; of_second = m.4.of_second })
        where
          wider : HoldsFor (x ∷ []) m.1 m.4.slot → HoldsFor (x ∷ xs) m.1 m.4.slot
          wider (inl held) = inl held
          wider (inr none) = absurd none

      neither : (Meets (x ∷ []) ys → ⊥) → (Meets xs ys → ⊥) → Meets (x ∷ xs) ys → ⊥
      neither one rest m = by_event m.4.of_first
        where
          by_event : HoldsFor (x ∷ xs) m.1 m.4.slot → ⊥
          by_event (inl held) = one (m.0, m.1, m.2, m.3, record { slot = m.4.slot; of_first = inl held; of_second = m.4.of_second })
          by_event (inr held) = rest (m.0, m.1, m.2, m.3, record { slot = m.4.slot; of_first = held; of_second = m.4.of_second })

      by_rest : Decided (Meets (x ∷ []) ys) → Decided (Meets xs ys) → Decided (Meets (x ∷ xs) ys)
      by_rest (inl one) rest = inl (from_one one)
      by_rest (inr none) (inl rest) = inl (to_all rest)
      by_rest (inr none) (inr others) = inr (neither none others)

-- in either field
module _ (one two : Listing) where
  module _ (P Q : ℕ → Type 0) (decide_second : (n : ℕ) → Decided (P n)) (decide_first : (n : ℕ) → Decided (Q n)) where
    abbrev Clashing : Type 0
    Clashing = (c : ℕ) × (d : ℕ) × P c × Q d × IsFieldClash one two c d

    clashing : Decided Clashing
    clashing =
        by_fields
        (all_meet P Q decide_second decide_first (list_events one (authored_channel One)) (list_events two (authored_channel One)))
        (all_meet P Q decide_second decide_first (list_events one (authored_channel Two)) (list_events two (authored_channel Two)))
      where
        by_fields : Decided (Meets P Q decide_second decide_first (list_events one (authored_channel One)) (list_events two (authored_channel One)))
            → Decided (Meets P Q decide_second decide_first (list_events one (authored_channel Two)) (list_events two (authored_channel Two))) → Decided Clashing
        by_fields (inl m) other = inl (m.0, m.1, m.2, m.3, (One, m.4))
        by_fields (inr none) (inl m) = inl (m.0, m.1, m.2, m.3, (Two, m.4))
        by_fields (inr none) (inr others) = inr (λ m. by_field m m.4)
          where
            by_field : (m : Clashing) → IsFieldClash one two m.0 m.1 → ⊥
            by_field m (One, is) = none (m.0, m.1, m.2, m.3, is)
            by_field m (Two, is) = others (m.0, m.1, m.2, m.3, is)

  any : (n : ℕ) → Decided ⊤
  any n = inl tt

  is_it : (c n : ℕ) → Decided (n ≡ c)
  is_it c n = cases_eq n c

  -- of one cue of the second list, and of one of the first with it
  second_clashes : (c : ℕ) → Decided ((d : ℕ) × IsFieldClash one two c d)
  second_clashes c = by_all (clashing (λ n. n ≡ c) (λ n. ⊤) (is_it c) any)
    where
      by_all : Decided (Clashing (λ n. n ≡ c) (λ n. ⊤) (is_it c) any) → Decided ((d : ℕ) × IsFieldClash one two c d)
      by_all (inl m) = inl (m.1, subst (λ n. IsFieldClash one two n m.1) m.2 m.4)
      by_all (inr none) = inr (λ m. none (c, m.0, refl, tt, m.1))

  both_clash : (c d : ℕ) → Decided (IsFieldClash one two c d)
  both_clash c d = by_all (clashing (λ n. n ≡ c) (λ n. n ≡ d) (is_it c) (is_it d))
    where
      by_all : Decided (Clashing (λ n. n ≡ c) (λ n. n ≡ d) (is_it c) (is_it d)) → Decided (IsFieldClash one two c d)
      by_all (inl m) = inl (subst (λ n. IsFieldClash one two n d) m.2 (subst (λ n. IsFieldClash one two m.0 n) m.3 m.4))
      by_all (inr none) = inr (λ is. none (c, d, refl, refl, is))

  -- the least clash, or none
  pub least_is : (clash : Option Clash) × IsLeast (IsFieldClash one two) clash
  least_is = by_all (clashing (λ n. ⊤) (λ n. ⊤) any any)
    where
      least : (c d : ℕ) → IsFieldClash one two c d → (clash : Option Clash) × IsLeast (IsFieldClash one two) clash
      least c d is =
          let second = least_of (λ n. (m : ℕ) × IsFieldClash one two n m) second_clashes c (d, is) in
          let first = least_of (λ n. IsFieldClash one two second.0 n) (both_clash second.0) second.1.0 second.1.1 in (
            Some (record { second = second.0; first = first.0 }),
            record {
              clashes = first.1;
              least = λ n m found. second.2 n (m, found);
              least_first = λ m found. first.2 m found;
            },
          )

      by_all : Decided (Clashing (λ n. ⊤) (λ n. ⊤) any any) → (clash : Option Clash) × IsLeast (IsFieldClash one two) clash
      by_all (inl m) = least m.0 m.1 m.4
      by_all (inr none) = (None, λ second first is. none (second, first, tt, tt, is))

pub least_always : ALeastClashIsThereOrNone
least_always one two = least_is one two
