-- Whether the units of a lane beside another one have a placement can be told: each unit in turn is tried in one slot after another
-- after the units before it, until it would end too late.
use Rattle.std.proofs.Common.{◌≡◌, ◌⊎◌, inl, inr, ℕ, zero, suc, ◌+◌, ◌<◌, ◌≤◌, ◌&&◌, Bool, true, false, List, [], ◌∷◌, ◌++◌, Option, Some, None, All, length, get_or, take, refl, sym, ap, subst, arith}
use Rattle.std.specs.Prelude.{if◌then◌else◌}
use Rattle.std.proofs.lemmas.Bool.{cases_eq, cases_lt}
use Rattle.lanes.specs.FirstFit.{IsFirst}
use Rattle.lanes.specs.LaneRoom.{AreInCueOrder, IsFirstCrowded}
use Rattle.dual_fields.specs.Filled.{IsFilled}
use Rattle.dual_fields.specs.Parts.{IsBegun, part_cue, part_slots}
use Rattle.dual_fields.specs.ResumedLane.{IsAllowedBeside, IsFirstTwo, IsLastForeign, ResumesAt, Stand, resumed_lane}
use Rattle.dual_fields.specs.Slots.{AreSound, Slots}
use Rattle.dual_fields.specs.Waiting.{Describes, may_begin, next_resume, resume_at}
use Rattle.dual_fields.specs.declared.part.Part.{Part}
use Rattle.dual_fields.specs.declared.place.Place.{Place}
use Rattle.dual_fields.specs.declared.place.Resume.{Resume}
use Rattle.dual_fields.specs.declared.place.Resume.TheVariants.{NotNeeded}
use Rattle.dual_fields.proofs.FillLemmas.{Reaches, filled_all, reaches_first, reaches_next, reaches_none}
use Rattle.dual_fields.proofs.WaitingLemmas.{begins_allowed, described_first, described_next, placed_resumes, refused}

-- the first slot in which a unit may begin after others, and where its cue's first unit comes again
record FirstPlace (slots : Slots) (end : ℕ) (part : Part) : Type 0 where
  place : Place
  first : IsFirst (IsAllowedBeside slots end part) place.slot
  resumes : ResumesAt slots end part place.slot place.resume

-- it has one, or may begin nowhere
abbrev HasPlace : Slots → ℕ → Part → Type 0
HasPlace slots end part = FirstPlace slots end part ⊎ ((slot : ℕ) → IsAllowedBeside slots end part slot → ⊥)

-- the slots from one on are tried, where it may begin in none before it
place_from : (slots : Slots) (end : ℕ) (part : Part) (tries slot : ℕ) (resume : Resume) → end ≤ slot → Describes slots end slot resume
    → ((other : ℕ) → IsAllowedBeside slots end part other → slot ≤ other) → ((other : ℕ) → IsAllowedBeside slots end part other → other < slot + tries) → HasPlace slots end part
place_from slots end part zero slot resume from describes none late = inr (λ other a. let low = none other a in let high = late other a in omega arith)
place_from slots end part (suc tries) slot resume from describes none late =
    by_test (may_begin slots resume slot part) refl
    (λ is. place_from slots end part tries (slot + 1) (next_resume resume slot (slots.foreign slot) (slots.free slot && slots.free (slot + 1))) (omega arith)
    (described_next slots end slot from resume (slots.foreign slot) (slots.free slot && slots.free (slot + 1)) refl refl describes)
    (λ other a.
    let low = none other a in
    elim (cases_eq slot other) [
      | inl same ↦ absurd (refused slots end slot from resume part describes is (subst (IsAllowedBeside slots end part) (sym same) a))
      | inr apart ↦ omega arith
    ])
    (λ other a. let high = late other a in omega arith))
  where
    by_test : (b : Bool) → may_begin slots resume slot part ≡ b → (may_begin slots resume slot part ≡ false → HasPlace slots end part) → HasPlace slots end part
    by_test true is rest =
        inl (record {
          place = record { slot = slot; resume = if part.later then resume_at resume else None };
          first = record { holds = begins_allowed slots end slot from resume part describes is; first = none };
          resumes = placed_resumes slots end slot from resume part describes is;
        })
    by_test false is rest = rest is

place_decided : (slots : Slots) (end : ℕ) (part : Part) → HasPlace slots end part
place_decided slots end part =
    place_from slots end part (suc part.chunk.until) end NotNeeded (omega arith) (described_first slots end) (λ other a. a.behind)
    (λ other a. let ended = a.ended in omega arith)

-- the units are placed, or a cue is the first without room
module _ (slots : Slots) (sound : AreSound slots) (us : List Part) (begun : All IsBegun us) (order : AreInCueOrder part_cue us) where
  abbrev Judged : ℕ → Type 0
  Judged k = ((places : List Place) × (end : ℕ) × Reaches slots (take k us) places end) ⊎ ((cue : ℕ) × IsFirstCrowded (resumed_lane slots) part_cue us cue)

  parts_decided : (d : Part) (k : ℕ) → k ≤ length us → Judged k
  parts_decided d zero within = inl ([], 0, reaches_first slots)
  parts_decided d (suc k) within =
      elim (parts_decided d k (omega arith)) [
        | inl before ↦ next before.0 before.1 before.2 (place_decided slots before.1 (get_or us k d))
        | inr crowded ↦ inr crowded
      ]
    where
      next : (places : List Place) (end : ℕ) → Reaches slots (take k us) places end → HasPlace slots end (get_or us k d) → Judged (suc k)
      next places end reaches (inl found) =
          let e : k + 1 ≡ suc k = omega arith in
          inl (
            places ++ found.place ∷ [],
            found.place.slot + part_slots (get_or us k d),
            subst (λ n. Reaches slots (take n us) (places ++ found.place ∷ []) (found.place.slot + part_slots (get_or us k d))) e
                (reaches_next slots sound us k d places end (found.place.slot + part_slots (get_or us k d)) found.place begun (omega arith) reaches found.first found.resumes refl),
          )
      next places end reaches (inr nowhere) =
          inr ((get_or us k d).chunk.cue, reaches_none slots sound us k d places end begun order (omega arith) reaches nowhere)

  -- what is placed is filled
  abbrev pub IsDecided : Type 0
  IsDecided = ((places : List Place) × IsFilled slots us places) ⊎ ((cue : ℕ) × IsFirstCrowded (resumed_lane slots) part_cue us cue)

pub lane_decided : (slots : Slots) (sound : AreSound slots) (us : List Part) (begun : All IsBegun us) (order : AreInCueOrder part_cue us)
    → IsDecided slots sound us begun order
lane_decided slots sound [] begun order = inl ([], filled_all slots [] 0 [] 0 (omega arith) (reaches_first slots))
lane_decided slots sound (u ∷ us) begun order =
    elim (parts_decided slots sound (u ∷ us) begun order u (length (u ∷ us)) (omega arith)) [
      | inl all ↦ inl (all.0, filled_all slots (u ∷ us) (length (u ∷ us)) all.0 all.1 (omega arith) all.2)
      | inr crowded ↦ inr crowded
    ]

-- a slot is the last foreign one, or another is
last_same : (slots : Slots) (end slot a b : ℕ) → IsLastForeign slots end slot a → IsLastForeign slots end slot b → a ≡ b
last_same slots end slot a b one other =
    elim (cases_lt a b) [
      | inl less ↦ let none : slots.foreign b ≡ false = one.none_later b less other.before in let is = other.foreign in absurd (cc)
      | inr most ↦ elim (cases_lt b a) [
        | inl less ↦ let none : slots.foreign a ≡ false = other.none_later a less one.before in let is = one.foreign in absurd (cc)
        | inr least ↦ omega arith
      ]
    ]

two_same : (slots : Slots) (last slot a b : ℕ) → IsFirstTwo slots last slot a → IsFirstTwo slots last slot b → a ≡ b
two_same slots last slot a b one other =
    elim (cases_lt a b) [
      | inl less ↦ let none : slots.free (a + 1) ≡ false = other.earliest a one.behind less one.first in let is = one.second in absurd (cc)
      | inr most ↦ elim (cases_lt b a) [
        | inl less ↦ let none : slots.free (b + 1) ≡ false = one.earliest b other.behind less other.first in let is = other.second in absurd (cc)
        | inr least ↦ omega arith
      ]
    ]

resume_same : (slots : Slots) (end : ℕ) (part : Part) (slot : ℕ) (a b : Option ℕ) → ResumesAt slots end part slot a → ResumesAt slots end part slot b → a ≡ b
resume_same slots end part slot None None one other = refl
resume_same slots end part slot None (Some b) one other =
    let none : slots.foreign other.1.last ≡ false = one other.0 other.1.last other.1.last_is.behind other.1.last_is.before in
    let is = other.1.last_is.foreign in absurd (cc)
resume_same slots end part slot (Some a) None one other =
    let none : slots.foreign one.1.last ≡ false = other one.0 one.1.last one.1.last_is.behind one.1.last_is.before in
    let is = one.1.last_is.foreign in absurd (cc)
resume_same slots end part slot (Some a) (Some b) one other =
    let last = last_same slots end slot other.1.last one.1.last other.1.last_is one.1.last_is in
    ap Some (two_same slots one.1.last slot a b one.1.at_is (subst (λ l. IsFirstTwo slots l slot b) last other.1.at_is))

-- first units come again in one way alone
pub resumes_same : (slots : Slots) (end : ℕ) (us : List Part) (fs : List ℕ) (rs qs : List (Option ℕ)) → Stand slots end us fs rs → Stand slots end us fs qs → rs ≡ qs
resumes_same slots end [] [] [] [] one other = refl
resumes_same slots end [] [] [] (q ∷ qs) one other = absurd other
resumes_same slots end [] [] (r ∷ rs) qs one other = absurd one
resumes_same slots end [] (f ∷ fs) rs qs one other = absurd one
resumes_same slots end (u ∷ us) [] rs qs one other = absurd one
resumes_same slots end (u ∷ us) (f ∷ fs) [] qs one other = absurd one
resumes_same slots end (u ∷ us) (f ∷ fs) (r ∷ rs) [] one other = absurd other
resumes_same slots end (u ∷ us) (f ∷ fs) (r ∷ rs) (q ∷ qs) one other =
    let first = resume_same slots end u f r q one.1 other.1 in
    let rest = resumes_same slots (f + part_slots u) us fs rs qs one.2 other.2 in
    cc
