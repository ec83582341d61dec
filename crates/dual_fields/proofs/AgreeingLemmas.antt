-- Slots that agree up to where units must end have the same placements of these.
use Rattle.std.proofs.Common.{ℕ, ◌+◌, ◌<◌, ◌≤◌, List, [], ◌∷◌, ◌++◌, Option, Some, None, All, sym, ◌∙◌, arith}
use Rattle.std.specs.Prelude.{nat_le}
use Rattle.std.proofs.lemmas.List.Elements.{All-filter, All-head, All-tail}
use Rattle.lanes.specs.LaneRoom.{IsFirstCrowded, up_to}
use Rattle.lanes.specs.Placing.{IsEarliest, IsPlaced}
use Rattle.dual_fields.specs.Agreeing.{Agree, AgreeingAreOne, EndsBy}
use Rattle.dual_fields.specs.Parts.{part_cue, part_slots}
use Rattle.dual_fields.specs.ResumedLane.{HasTwo, IsAllowedBeside, ResumesAt, Stand, end_of_parts, resumed_lane}
use Rattle.dual_fields.specs.Slots.{Slots}
use Rattle.dual_fields.specs.declared.part.Part.{Part}

agree_back : (count : ℕ) (slots others : Slots) → Agree count slots others → Agree count others slots
agree_back count slots others agree = record { free = λ n below. sym (agree.free n below); foreign = λ n below. sym (agree.foreign n below) }

module _ (count : ℕ) (slots others : Slots) (agree : Agree count slots others) where
  two_too : (m n : ℕ) → n ≤ count → HasTwo slots m n → HasTwo others m n
  two_too m n below two = record {
    at = two.at;
    behind = two.behind;
    before = two.before;
    first = agree.free two.at (omega (arith, two.before)) ∙ two.first;
    second = agree.free (two.at + 1) (omega (arith, two.before)) ∙ two.second;
  }

  allowed_too : (end : ℕ) (part : Part) (slot : ℕ) → part.chunk.until ≤ count → IsAllowedBeside slots end part slot → IsAllowedBeside others end part slot
  allowed_too end part slot ends is = record {
    behind = is.behind;
    loaded = is.loaded;
    ended = is.ended;
    free = λ n from to. agree.free n (omega (arith, is.ended)) ∙ is.free n from to;
    resumed = λ later m from to foreign.
        two_too m slot (omega (arith, is.ended)) (is.resumed later m from to (sym (agree.foreign m (omega (arith, is.ended))) ∙ foreign));
  }

  placed_too : (before : List (Part × ℕ)) (us : List Part) (fs : List ℕ) → All (EndsBy count) us → IsPlaced (resumed_lane slots) before us fs → IsPlaced (resumed_lane others) before us fs
  placed_too before [] [] ends is = tt
  placed_too before [] (f ∷ fs) ends is = absurd is
  placed_too before (u ∷ us) [] ends is = absurd is
  placed_too before (u ∷ us) (f ∷ fs) ends is = (
    allowed_too (end_of_parts before) u f (All-head (EndsBy count) u us ends) is.0,
    placed_too (before ++ (u, f) ∷ []) us fs (All-tail (EndsBy count) u us ends) is.1,
  )

  -- first units come again in the same slots
  resumes_too : (end : ℕ) (part : Part) (f : ℕ) (r : Option ℕ) → f ≤ count → ResumesAt slots end part f r → ResumesAt others end part f r
  resumes_too end part f None below is = λ later m from to. agree.foreign m (omega arith) ∙ is later m from to
  resumes_too end part f (Some at) below is =
      let last = is.1.last_is in
      let two = is.1.at_is in
      let first : at < count = omega (arith, two.before) in
      let second : at + 1 < count = omega (arith, two.before) in (
        is.0,
        record {
          last = is.1.last;
          last_is = record {
            behind = last.behind;
            before = last.before;
            foreign = agree.foreign is.1.last (omega (arith, last.before)) ∙ last.foreign;
            none_later = λ m from to. agree.foreign m (omega arith) ∙ last.none_later m from to;
          };
          at_is = record {
            behind = two.behind;
            before = two.before;
            first = agree.free at first ∙ two.first;
            second = agree.free (at + 1) second ∙ two.second;
            earliest = λ other from to free. agree.free (other + 1) (omega (arith, first)) ∙ two.earliest other from to (sym (agree.free other (omega (arith, first))) ∙ free);
          };
        },
      )

  stand_too : (end : ℕ) (us : List Part) (fs : List ℕ) (rs : List (Option ℕ)) → All (EndsBy count) us → Stand slots end us fs rs → Stand others end us fs rs
  stand_too end [] [] [] ends is = tt
  stand_too end [] [] (r ∷ rs) ends is = absurd is
  stand_too end [] (f ∷ fs) rs ends is = absurd is
  stand_too end (u ∷ us) [] rs ends is = absurd is
  stand_too end (u ∷ us) (f ∷ fs) [] ends is = absurd is
  stand_too end (u ∷ us) (f ∷ fs) (r ∷ rs) ends is =
      let by : u.chunk.until ≤ count = All-head (EndsBy count) u us ends in (
        allowed_too end u f by is.0,
        resumes_too end u f r (omega (arith, is.0.ended)) is.1,
        stand_too (f + part_slots u) us fs rs (All-tail (EndsBy count) u us ends) is.2,
      )

-- both ways
module _ (count : ℕ) (slots others : Slots) (agree : Agree count slots others) (us : List Part) (ends : All (EndsBy count) us) where
  there : (fs : List ℕ) → IsPlaced (resumed_lane slots) [] us fs → IsPlaced (resumed_lane others) [] us fs
  there fs is = placed_too count slots others agree [] us fs ends is

  back : (fs : List ℕ) → IsPlaced (resumed_lane others) [] us fs → IsPlaced (resumed_lane slots) [] us fs
  back fs is = placed_too count others slots (agree_back count slots others agree) [] us fs ends is

  earliest_too : (fs : List ℕ) → IsEarliest (resumed_lane slots) us fs → IsEarliest (resumed_lane others) us fs
  earliest_too fs is = record { placed = there fs is.placed; first = λ gs placed. is.first gs (back gs placed) }

  some_ends : (cue : ℕ) → All (EndsBy count) (up_to part_cue cue us)
  some_ends cue = All-filter (λ u. nat_le (part_cue u) cue) (EndsBy count) us ends

crowded_too : (count : ℕ) (slots others : Slots) → Agree count slots others → (us : List Part) → All (EndsBy count) us
    → (cue : ℕ) → IsFirstCrowded (resumed_lane slots) part_cue us cue → IsFirstCrowded (resumed_lane others) part_cue us cue
crowded_too count slots others agree us ends cue is = record {
  none = λ has. is.none (has.0, back count slots others agree (up_to part_cue cue us) (some_ends count slots others agree us ends cue) has.0 has.1);
  first = λ earlier below.
      let room = is.first earlier below in
      (room.0, there count slots others agree (up_to part_cue earlier us) (some_ends count slots others agree us ends earlier) room.0 room.1);
}

pub agreeing_one : AgreeingAreOne
agreeing_one count slots others agree us ends =
    let again = agree_back count slots others agree in
    record {
      earliest = λ fs. (earliest_too count slots others agree us ends fs, earliest_too count others slots again us ends fs);
      stand = λ end fs rs. (stand_too count slots others agree end us fs rs ends, stand_too count others slots again end us fs rs ends);
      crowded = λ cue. (crowded_too count slots others agree us ends cue, crowded_too count others slots again us ends cue);
    }
