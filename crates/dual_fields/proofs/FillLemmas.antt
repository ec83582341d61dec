-- A lane that is filled unit by unit.
use Rattle.std.proofs.Common.{◌≡◌, true, false, nat_le, Option, Some, None, slice_get, append-nil, append_assoc, ℕ, ◌+◌, ◌<◌, ◌≤◌, List, [], ◌∷◌, ◌++◌, refl, sym, ap, ◌∙◌, subst, length, get_or, take, take_all}
use Rattle.std.specs.Prelude.{All}
use Rattle.std.proofs.lemmas.List.{map-append, take_more}
use Rattle.std.proofs.lemmas.List.Elements.{All-append, All-cons, All-filter, All-nil, All-take}
use Rattle.std.specs.List.{zip}
use Rattle.lanes.specs.FirstFit.{IsFirst, IsFirstFit}
use Rattle.lanes.specs.LaneRoom.{AreInCueOrder, IsFirstCrowded, up_to}
use Rattle.lanes.specs.Placing.{IsEarliest}
use Rattle.lanes.proofs.LaneRoomLemmas.{no_room_at}
use Rattle.lanes.proofs.PlacingLemmas.{earliest_none, zip_push}
use Rattle.dual_fields.specs.Alone.{lane_alone}
use Rattle.dual_fields.specs.Filled.{IsFilled, resumes_at, slots_at}
use Rattle.dual_fields.specs.Parts.{IsBegun, part_cue, part_slots}
use Rattle.dual_fields.specs.ResumedLane.{IsAllowedBeside, ResumesAt, Stand, end_of_parts, resumed_lane}
use Rattle.dual_fields.specs.Slots.{AreSound, Slots, is_foreign, is_free, slots_in}
use Rattle.dual_fields.specs.declared.slot_use.SlotUse.{SlotUse}
use Rattle.dual_fields.specs.declared.slot_use.SlotUse.TheVariants.{Free, Own, Foreign}
use Rattle.dual_fields.specs.declared.place.Place.{Place}
use Rattle.dual_fields.specs.declared.part.Part.{Part}
use Rattle.dual_fields.proofs.ResumedLemmas.{earliest_alone, end_push, first_fit_earliest, fits_earlier, from_lane_alone, lanes_one}

-- the units placed so far, and their end
pub record Reaches (slots : Slots) (us : List Part) (places : List Place) (end : ℕ) : Type 0 where
  pub earliest : IsEarliest (resumed_lane slots) us (slots_at places)
  pub stand : Stand slots 0 us (slots_at places) (resumes_at places)
  pub end_is : end ≡ end_of_parts (zip us (slots_at places))

-- one more unit in the first slot that is allowed after others
fit_push : {U : Type 0} (allowed : List (U × ℕ) → U → ℕ → Type 0) (before : List (U × ℕ)) (us : List U) (fs : List ℕ) (u : U) (f : ℕ)
    → IsFirstFit allowed before us fs → IsFirst (allowed (before ++ zip us fs) u) f → IsFirstFit allowed before (us ++ u ∷ []) (fs ++ f ∷ [])
fit_push allowed before [] [] u f fit first = (subst (λ b. IsFirst (allowed b u) f) (append-nil before) first, tt)
fit_push allowed before [] (g ∷ fs) u f fit first = absurd fit
fit_push allowed before (v ∷ us) [] u f fit first = absurd fit
fit_push allowed before (v ∷ us) (g ∷ fs) u f fit first = (
  fit.0,
  fit_push allowed (before ++ (v, g) ∷ []) us fs u f fit.1
      (subst (λ b. IsFirst (allowed b u) f) (sym (append_assoc before ((v, g) ∷ []) (zip us fs))) first),
)

stand_push : (slots : Slots) (before : List (Part × ℕ)) (end : ℕ) (us : List Part) (fs : List ℕ) (rs : List (Option ℕ)) (u : Part) (f : ℕ) (r : Option ℕ) → end_of_parts before ≡ end
    → Stand slots end us fs rs → IsAllowedBeside slots (end_of_parts (before ++ zip us fs)) u f → ResumesAt slots (end_of_parts (before ++ zip us fs)) u f r
    → Stand slots end (us ++ u ∷ []) (fs ++ f ∷ []) (rs ++ r ∷ [])
stand_push slots before end [] [] [] u f r at stand allowed resumes = (
  subst (λ e. IsAllowedBeside slots e u f) (ap end_of_parts (append-nil before) ∙ at) allowed,
  subst (λ e. ResumesAt slots e u f r) (ap end_of_parts (append-nil before) ∙ at) resumes,
  tt,
)
stand_push slots before end [] [] (q ∷ rs) u f r at stand allowed resumes = absurd stand
stand_push slots before end [] (g ∷ fs) rs u f r at stand allowed resumes = absurd stand
stand_push slots before end (v ∷ us) [] rs u f r at stand allowed resumes = absurd stand
stand_push slots before end (v ∷ us) (g ∷ fs) [] u f r at stand allowed resumes = absurd stand
stand_push slots before end (v ∷ us) (g ∷ fs) (q ∷ rs) u f r at stand allowed resumes = (
  stand.0,
  stand.1,
  stand_push slots (before ++ (v, g) ∷ []) (g + part_slots v) us fs rs u f r (end_push before v g) stand.2
      (subst (λ b. IsAllowedBeside slots (end_of_parts b) u f) (sym (append_assoc before ((v, g) ∷ []) (zip us fs))) allowed)
      (subst (λ b. ResumesAt slots (end_of_parts b) u f r) (sym (append_assoc before ((v, g) ∷ []) (zip us fs))) resumes),
)

slots_push : (places : List Place) (place : Place) → slots_at (places ++ place ∷ []) ≡ slots_at places ++ place.slot ∷ []
slots_push places place = map-append (λ (p : Place). p.slot) places (place ∷ [])

resumes_push : (places : List Place) (place : Place) → resumes_at (places ++ place ∷ []) ≡ resumes_at places ++ place.resume ∷ []
resumes_push places place = map-append (λ (p : Place). p.resume) places (place ∷ [])

-- none yet
pub reaches_first : (slots : Slots) → Reaches slots [] [] 0
reaches_first slots = record { earliest = earliest_none (resumed_lane slots); stand = tt; end_is = refl }

module _ (slots : Slots) (sound : AreSound slots) where
  reaches_push : (us : List Part) (places : List Place) (end : ℕ) (u : Part) (place : Place) → All IsBegun us → IsBegun u → Reaches slots us places end
      → IsFirst (IsAllowedBeside slots end u) place.slot → ResumesAt slots end u place.slot place.resume
      → Reaches slots (us ++ u ∷ []) (places ++ place ∷ []) (place.slot + part_slots u)
  reaches_push us places end u place begun begins r first resumes =
      let all : All IsBegun (us ++ u ∷ []) = All-append IsBegun us (u ∷ []) begun (All-cons IsBegun u [] begins (All-nil IsBegun)) in
      let here : IsFirst (resumed_lane slots (zip us (slots_at places)) u) place.slot = subst (λ e. IsFirst (IsAllowedBeside slots e u) place.slot) r.end_is first in
      let fit : IsFirstFit (resumed_lane slots) [] (us ++ u ∷ []) (slots_at places ++ place.slot ∷ []) =
      fit_push (resumed_lane slots) [] us (slots_at places) u place.slot ((first_fit_earliest slots sound us begun (slots_at places)).0 r.earliest) here in
      let earliest : IsEarliest (resumed_lane slots) (us ++ u ∷ []) (slots_at places ++ place.slot ∷ []) =
      (first_fit_earliest slots sound (us ++ u ∷ []) all (slots_at places ++ place.slot ∷ [])).1 fit in
      record {
        earliest = subst (IsEarliest (resumed_lane slots) (us ++ u ∷ [])) (sym (slots_push places place)) earliest;
        stand = subst (λ fs. Stand slots 0 (us ++ u ∷ []) fs (resumes_at (places ++ place ∷ []))) (sym (slots_push places place))
            (subst (Stand slots 0 (us ++ u ∷ []) (slots_at places ++ place.slot ∷ [])) (sym (resumes_push places place))
            (stand_push slots [] 0 us (slots_at places) (resumes_at places) u place.slot place.resume refl r.stand here.holds
            (subst (λ e. ResumesAt slots e u place.slot place.resume) r.end_is resumes)));
        end_is = sym (ap (λ l. end_of_parts (zip (us ++ u ∷ []) l)) (slots_push places place)
            ∙ ap end_of_parts (zip_push (resumed_lane slots) [] us (slots_at places) u place.slot r.earliest.placed) ∙ end_push (zip us (slots_at places)) u place.slot);
      }

  pub reaches_next : (us : List Part) (k : ℕ) (d : Part) (places : List Place) (end new : ℕ) (place : Place) → All IsBegun us → k < length us
      → Reaches slots (take k us) places end → IsFirst (IsAllowedBeside slots end (get_or us k d)) place.slot → ResumesAt slots end (get_or us k d) place.slot place.resume
      → new ≡ place.slot + part_slots (get_or us k d) → Reaches slots (take (k + 1) us) (places ++ place ∷ []) new
  reaches_next us k d places end new place begun h r first resumes after =
      subst (Reaches slots (take (k + 1) us) (places ++ place ∷ [])) (sym after)
      (subst (λ l. Reaches slots l (places ++ place ∷ []) (place.slot + part_slots (get_or us k d))) (sym (take_more us k d h))
      (reaches_push (take k us) places end (get_or us k d) place (All-take IsBegun k us begun) (begun k d h) r first resumes))

  -- where no slot is allowed for the next unit, its cue is the first without room
  pub reaches_none : (us : List Part) (k : ℕ) (d : Part) (places : List Place) (end : ℕ) → All IsBegun us → AreInCueOrder part_cue us → k < length us
      → Reaches slots (take k us) places end → ((f : ℕ) → IsAllowedBeside slots end (get_or us k d) f → ⊥) → IsFirstCrowded (resumed_lane slots) part_cue us (get_or us k d).chunk.cue
  reaches_none us k d places end begun order h r nowhere =
      let alone = no_room_at part_cue (lane_alone slots) (fits_earlier slots) us k d (slots_at places) order h
      (earliest_alone slots sound (take k us) (All-take IsBegun k us begun) (slots_at places) r.earliest) (take_more us k d h)
      (λ f a. nowhere f (subst (λ e. IsAllowedBeside slots e (get_or us k d) f) (sym r.end_is) (from_lane_alone slots (zip (take k us) (slots_at places)) (get_or us k d) f a))) in
      record {
        none = λ has. alone.none (has.0, (lanes_one slots sound (up_to part_cue (get_or us k d).chunk.cue us) (All-filter (λ u. nat_le (part_cue u) (get_or us k d).chunk.cue) IsBegun us begun) has.0).0 has.1);
        first = λ earlier below.
            let w = alone.first earlier below in
            (w.0, (lanes_one slots sound (up_to part_cue earlier us) (All-filter (λ u. nat_le (part_cue u) earlier) IsBegun us begun) w.0).1 w.1);
      }

pub filled_all : (slots : Slots) (us : List Part) (k : ℕ) (places : List Place) (end : ℕ) → length us ≤ k → Reaches slots (take k us) places end → IsFilled slots us places
filled_all slots us k places end h r =
    let all : take k us ≡ us = take_all k us h in
    record {
      earliest = subst (λ l. IsEarliest (resumed_lane slots) l (slots_at places)) all r.earliest;
      stand = subst (λ l. Stand slots 0 l (slots_at places) (resumes_at places)) all r.stand;
    }

-- no slot of a table is both free and foreign
pub table_sound : (uses : List SlotUse) → AreSound (slots_in uses)
table_sound uses n is = by_use (slice_get uses n) is
  where
    by_use : (u : Option SlotUse) → is_foreign u ≡ true → is_free u ≡ false
    by_use None is = refl
    by_use (Some Free) is = cc
    by_use (Some Own) is = refl
    by_use (Some Foreign) is = refl
