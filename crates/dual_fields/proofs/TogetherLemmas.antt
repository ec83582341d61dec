-- Two lanes in one field: each channel gets its own.
use Rattle.std.proofs.Common.{◌≡◌, ℕ, zero, suc, ◌+◌, ◌<◌, ◌≤◌, ◌==◌, ◌&&◌, ◌||◌, not, is_some, Bool, true, false, List, [], ◌∷◌, Option, Some, None, refl, sym, ap, ◌∙◌, subst, arith, ◌⊎◌, inl, inr, ⊎_elim}
use Rattle.std.specs.Option.{option_or}
use Rattle.std.proofs.lemmas.Bool.{cases_lt}
use Rattle.std.proofs.lemmas.Bool.Decides.{nat_tests}
use Rattle.line21_codes.specs.declared.channels.FieldNumber.{FieldNumber}
use Rattle.line21_codes.specs.declared.channels.FieldNumber.TheVariants as fields
use Rattle.line21_codes.specs.declared.channels.DataChannel.{DataChannel}
use Rattle.line21_codes.specs.declared.channels.DataChannel.TheVariants.{One, Two}
use Rattle.line21_codes.specs.declared.pairs.Pair.{Pair}
use Rattle.line21_codes.specs.Reading.{code_of}
use Rattle.line21_author.specs.declared.unit.Unit.{Unit}
use Rattle.line21_screen.specs.Fields.{channel}
use Rattle.lanes.specs.LaneTimeline.{stands, lane_timeline}
use Rattle.lanes.specs.DoubledPairs.{IsDoubled}
use Rattle.lanes.specs.Timeline.{Timeline, column, over, repeat_at, repeat_of}
use Rattle.lanes.proofs.ColumnLemmas.{column_doubled}
use Rattle.line21_shown.specs.Reading.{acts, does_unit, IsMarked}
use Rattle.dual_fields.specs.Parts.{BeginWithFirst, part_slots}
use Rattle.dual_fields.specs.ResumedLane.{Stand}
use Rattle.dual_fields.specs.Slots.{Slots}
use Rattle.dual_fields.specs.Spans.{GoOn, covers, in_spans}
use Rattle.dual_fields.proofs.SpansLemmas.{spans_covered}
use Rattle.dual_fields.specs.declared.part.Part.{Part}
use Rattle.dual_fields.specs.Lanes.{AreCues, IsBehind, IsLane, again, part_chunks, whole}
use Rattle.dual_fields.specs.Own.{own_of}
use Rattle.dual_fields.specs.Sharing.{AreFor, AreShared, IsLed, is_text}
use Rattle.dual_fields.specs.FieldSlots.{first_slots, holds, second_slots}
use Rattle.dual_fields.specs.Together.{AreOfChannel, AreTogether, EachIsAlone, IsListed, IsOfChannel, TogetherIsAlone}
use Rattle.dual_fields.proofs.LaneLemmas.{again_at, again_none, lane_resumed, some_size, stands_at, stands_none, two_size}
use Rattle.dual_fields.proofs.LedLemmas.{covered_later, covered_own, covered_rest, led_all, opener_plain}
use Rattle.dual_fields.proofs.OwnLemmas.{channels_own}
use Rattle.line21_shown.proofs.ReadingLemmas.{fields_read}
use Rattle.dual_fields.proofs.ResumingLemmas.{resumes_idle}
use Rattle.dual_fields.proofs.SharingLemmas.{shared_own}

-- a unit's slot, and its second one, are free and in the lane's spans
record IsInside (slots : Slots) (spans : ℕ → Bool) (n : ℕ) : Type 0 where
  free : slots.free n ≡ true
  covered : spans n ≡ true

-- where a unit stands
record Occupies (slots : Slots) (end : ℕ) (parts : List Part) (fs : List ℕ) (rs : List (Option ℕ)) (n : ℕ) (doubled : Bool) : Type 0 where
  here : IsInside slots (covers end parts fs) n
  next : doubled ≡ true → IsInside slots (covers end parts fs) (suc n)
  no_unit : doubled ≡ true → stands (part_chunks parts) fs (suc n) ≡ None
  no_again : doubled ≡ true → again parts rs (suc n) ≡ None

again_behind : (slots : Slots) (end : ℕ) (part : Part) (parts : List Part) (f : ℕ) (fs : List ℕ) (r : Option ℕ) (rs : List (Option ℕ)) (n : ℕ)
    → Stand slots end (part ∷ parts) (f ∷ fs) (r ∷ rs) → f ≤ n → again (part ∷ parts) (r ∷ rs) n ≡ again parts rs n
again_behind slots end part parts f fs None rs n stand high = refl
again_behind slots end part parts f fs (Some at) rs n stand high =
    let test : (n == at) ≡ false = let b = stand.1.1.at_is.before in grind (arith, nat_tests) in
    again_at part parts at rs n false test

unit_occupies : (slots : Slots) (end : ℕ) (parts : List Part) (fs : List ℕ) (rs : List (Option ℕ)) (n : ℕ) (unit : Unit) → Stand slots end parts fs rs
    → stands (part_chunks parts) fs n ≡ Some unit → Occupies slots end parts fs rs n unit.doubled
unit_occupies slots end [] fs rs n unit stand is = cc
unit_occupies slots end (part ∷ parts) [] rs n unit stand is = cc
unit_occupies slots end (part ∷ parts) (f ∷ fs) [] n unit stand is = absurd stand
unit_occupies slots end (part ∷ parts) (f ∷ fs) (r ∷ rs) n unit stand is =
    by_slot (n == f) refl (λ rest. unit_occupies slots (f + part_slots part) parts fs rs n unit stand.2 rest)
  where
    by_slot : (b : Bool) → (n == f) ≡ b → (stands (part_chunks parts) fs n ≡ Some unit → Occupies slots (f + part_slots part) parts fs rs n unit.doubled)
        → Occupies slots end (part ∷ parts) (f ∷ fs) (r ∷ rs) n unit.doubled
    by_slot true test rest =
        let here : n ≡ f = grind (arith, nat_tests) in
        let it : Some part.chunk.unit ≡ Some unit = sym (stands_at part parts f fs n true test) ∙ is in
        let same : part.chunk.unit ≡ unit = cc in
        let two : unit.doubled ≡ true → part_slots part ≡ 2 = λ doubled. two_size part (ap (λ (u : Unit). u.doubled) same ∙ doubled) in
        record {
          here = record {
            free = stand.0.free n (omega arith) (omega (arith, some_size part));
            covered = covered_own end part parts f fs n stand.0.behind (omega arith) (omega (arith, some_size part));
          };
          next = λ doubled. let s = two doubled in record {
            free = stand.0.free (suc n) (omega arith) (omega arith);
            covered = covered_own end part parts f fs (suc n) stand.0.behind (omega arith) (omega arith);
          };
          no_unit = λ doubled.
              let s = two doubled in
              let after' : (suc n == f) ≡ false = grind (arith, nat_tests) in
              stands_at part parts f fs (suc n) false after' ∙ stands_none slots (f + part_slots part) parts fs rs (suc n) stand.2 (omega arith);
          no_again = λ doubled.
              let s = two doubled in
              again_behind slots end part parts f fs r rs (suc n) stand (omega arith) ∙ again_none slots (f + part_slots part) parts fs rs (suc n) stand.2 (omega arith);
        }
    by_slot false test rest =
        let w = rest (sym (stands_at part parts f fs n false test) ∙ is) in
        let late : f + part_slots part ≤ n =
        ⊎_elim
        (λ (low : n < f + part_slots part).
        let none : stands (part_chunks parts) fs n ≡ None = stands_none slots (f + part_slots part) parts fs rs n stand.2 low in
        let wrong : Some unit ≡ None = sym is ∙ stands_at part parts f fs n false test ∙ none in absurd (cc))
        (λ (high : f + part_slots part ≤ n). high)
        (cases_lt n (f + part_slots part)) in
        let after' : (suc n == f) ≡ false = grind (arith, nat_tests) in
        record {
          here = record { free = w.here.free; covered = covered_rest end part parts f fs n w.here.covered };
          next = λ doubled. let x = w.next doubled in record { free = x.free; covered = covered_rest end part parts f fs (suc n) x.covered };
          no_unit = λ doubled. stands_at part parts f fs (suc n) false after' ∙ w.no_unit doubled;
          no_again = λ doubled. again_behind slots end part parts f fs r rs (suc n) stand (omega arith) ∙ w.no_again doubled;
        }

-- where one comes again, and no other stands
record OccupiesAgain (slots : Slots) (end : ℕ) (parts : List Part) (fs : List ℕ) (rs : List (Option ℕ)) (n : ℕ) : Type 0 where
  here : IsInside slots (covers end parts fs) n
  next : IsInside slots (covers end parts fs) (suc n)
  no_unit : stands (part_chunks parts) fs (suc n) ≡ None
  no_again : again parts rs (suc n) ≡ None

again_occupies : (slots : Slots) (end : ℕ) (parts : List Part) (fs : List ℕ) (rs : List (Option ℕ)) (n : ℕ) (unit : Unit) → Stand slots end parts fs rs
    → again parts rs n ≡ Some unit → OccupiesAgain slots end parts fs rs n
again_occupies slots end [] fs rs n unit stand is = cc
again_occupies slots end (part ∷ parts) fs [] n unit stand is = cc
again_occupies slots end (part ∷ parts) [] (r ∷ rs) n unit stand is = absurd stand
again_occupies slots end (part ∷ parts) (f ∷ fs) (r ∷ rs) n unit stand is =
    by_resume r refl (λ rest. again_occupies slots (f + part_slots part) parts fs rs n unit stand.2 rest)
  where
    -- after the unit
    later : OccupiesAgain slots (f + part_slots part) parts fs rs n → again parts rs n ≡ Some unit → OccupiesAgain slots end (part ∷ parts) (f ∷ fs) (r ∷ rs) n
    later w at =
        let late : f + part_slots part ≤ n =
        ⊎_elim
        (λ (low : n < f + part_slots part). let none : again parts rs n ≡ None = again_none slots (f + part_slots part) parts fs rs n stand.2 low in let wrong : Some unit ≡ None = sym at ∙ none in absurd (cc))
        (λ (high : f + part_slots part ≤ n). high)
        (cases_lt n (f + part_slots part)) in
        let after' : (suc n == f) ≡ false = let s = some_size part in grind (arith, nat_tests) in
        record {
          here = record { free = w.here.free; covered = covered_rest end part parts f fs n w.here.covered };
          next = record { free = w.next.free; covered = covered_rest end part parts f fs (suc n) w.next.covered };
          no_unit = stands_at part parts f fs (suc n) false after' ∙ w.no_unit;
          no_again = again_behind slots end part parts f fs r rs (suc n) stand (omega arith) ∙ w.no_again;
        }

    by_resume : (q : Option ℕ) → r ≡ q → (again parts rs n ≡ Some unit → OccupiesAgain slots (f + part_slots part) parts fs rs n)
        → OccupiesAgain slots end (part ∷ parts) (f ∷ fs) (r ∷ rs) n
    by_resume None r_is rest =
        let at : again parts rs n ≡ Some unit = sym (ap (λ (q : Option ℕ). again (part ∷ parts) (q ∷ rs) n) r_is) ∙ is in
        later (rest at) at
    by_resume (Some q) r_is rest = by_slot (n == q) refl
      where
        is_q : again (part ∷ parts) (Some q ∷ rs) n ≡ Some unit
        is_q = sym (ap (λ (q : Option ℕ). again (part ∷ parts) (q ∷ rs) n) r_is) ∙ is

        stand_q : Stand slots end (part ∷ parts) (f ∷ fs) (Some q ∷ rs)
        stand_q = subst (λ (q : Option ℕ). Stand slots end (part ∷ parts) (f ∷ fs) (q ∷ rs)) r_is stand

        by_slot : (b : Bool) → (n == q) ≡ b → OccupiesAgain slots end (part ∷ parts) (f ∷ fs) (r ∷ rs) n
        by_slot true test =
            let here : n ≡ q = grind (arith, nat_tests) in
            let resume = stand_q.1.1 in
            let e : q + 1 ≡ suc n = omega arith in
            let after' : (suc n == f) ≡ false = let b = resume.at_is.before in grind (arith, nat_tests) in
            let not_q : (suc n == q) ≡ false = grind (arith, nat_tests) in
            record {
              here = record {
                free = ap slots.free here ∙ resume.at_is.first;
                covered = covered_later end part parts f fs n stand_q.1.0 (omega (arith, resume.last_is.behind, resume.at_is.behind)) (omega (arith, resume.at_is.before));
              };
              next = record {
                free = ap slots.free (sym e) ∙ resume.at_is.second;
                covered = covered_later end part parts f fs (suc n) stand_q.1.0 (omega (arith, resume.last_is.behind, resume.at_is.behind)) (omega (arith, resume.at_is.before, some_size part));
              };
              no_unit = stands_at part parts f fs (suc n) false after' ∙ stands_none slots (f + part_slots part) parts fs rs (suc n) stand.2 (omega (arith, resume.at_is.before, some_size part));
              no_again = ap (λ (q : Option ℕ). again (part ∷ parts) (q ∷ rs) (suc n)) r_is ∙ again_at part parts q rs (suc n) false not_q
                  ∙ again_none slots (f + part_slots part) parts fs rs (suc n) stand.2 (omega (arith, resume.at_is.before, some_size part));
            }
        by_slot false test =
            let at : again parts rs n ≡ Some unit = sym (again_at part parts q rs n false test) ∙ is_q in
            later (rest at) at

-- what begins in a lane: an event, or a unit in slots of the lane
abbrev Source : Slots → (ℕ → Bool) → Timeline → ℕ → Unit → Type 0
Source slots spans events n unit =
    (events n ≡ Some unit) ⊎ (IsInside slots spans n × (unit.doubled ≡ true → IsInside slots spans (suc n)))

or_else : (u v : Option Unit) (unit : Unit) → option_or u v ≡ Some unit → (u ≡ Some unit) ⊎ ((u ≡ None) × (v ≡ Some unit))
or_else None v unit is = inr (refl, is)
or_else (Some w) v unit is = inl is

none_both : (u v : Option Unit) → u ≡ None → v ≡ None → option_or u v ≡ None
none_both u v a b = ap (λ x. option_or x v) a ∙ b

nothing_is : (u : Option Unit) → ((unit : Unit) → u ≡ Some unit → ⊥) → u ≡ None
nothing_is None never = refl
nothing_is (Some unit) never = absurd (never unit refl)

held_now : (events : Timeline) (n : ℕ) (unit : Unit) → events n ≡ Some unit → holds events n ≡ true
held_now events zero unit is = rw is refl
held_now events (suc n) unit is = rw is refl

or_right : (b : Bool) → (b || true) ≡ true
or_right true = refl
or_right false = refl

held_next : (events : Timeline) (n : ℕ) (unit : Unit) → events n ≡ Some unit → holds events (suc n) ≡ true
held_next events n unit is = ap (λ u. is_some (events (suc n)) || is_some u) is ∙ or_right (is_some (events (suc n)))

module _ (c : DataChannel) (slots : Slots) (events : Timeline) (parts : List Part) (fs : List ℕ) (rs : List (Option ℕ))
    (listed : IsListed c events parts) (stand : Stand slots 0 parts fs rs)
    (held : (n : ℕ) (unit : Unit) → events n ≡ Some unit → (slots.free n ≡ false) × (slots.free (suc n) ≡ false)) where
  source : (n : ℕ) (unit : Unit) → whole events parts fs rs n ≡ Some unit → Source slots (covers 0 parts fs) events n unit
  source n unit is =
      ⊎_elim
      (λ (at : lane_timeline events (part_chunks parts) fs n ≡ Some unit).
      ⊎_elim
      (λ (event : events n ≡ Some unit). inl event)
      (λ (w : (events n ≡ None) × (stands (part_chunks parts) fs n ≡ Some unit)).
      let o = unit_occupies slots 0 parts fs rs n unit stand w.1 in inr (o.here, o.next))
      (or_else (events n) (stands (part_chunks parts) fs n) unit at))
      (λ (w : (lane_timeline events (part_chunks parts) fs n ≡ None) × (again parts rs n ≡ Some unit)).
      let o = again_occupies slots 0 parts fs rs n unit stand w.1 in inr (o.here, λ doubled. o.next))
      (or_else (lane_timeline events (part_chunks parts) fs n) (again parts rs n) unit is)

  -- no event begins in a slot of the lane's
  no_event : (n : ℕ) → slots.free n ≡ true → events n ≡ None
  no_event n free = nothing_is (events n) (λ unit is. let wrong : slots.free n ≡ false = (held n unit is).0 in cc)

  -- no unit stands in the slot after an event, and none comes again there
  no_unit_behind : (n : ℕ) → slots.free n ≡ false → stands (part_chunks parts) fs n ≡ None
  no_unit_behind n taken =
      nothing_is (stands (part_chunks parts) fs n)
      (λ unit is. let free : slots.free n ≡ true = (unit_occupies slots 0 parts fs rs n unit stand is).here.free in cc)

  no_again_behind : (n : ℕ) → slots.free n ≡ false → again parts rs n ≡ None
  no_again_behind n taken =
      nothing_is (again parts rs n) (λ unit is. let free : slots.free n ≡ true = (again_occupies slots 0 parts fs rs n unit stand is).here.free in cc)

  -- nothing of the lane begins in a second slot
  spaced : (n : ℕ) (unit : Unit) → whole events parts fs rs n ≡ Some unit → unit.doubled ≡ true → whole events parts fs rs (suc n) ≡ None
  spaced n unit is doubled =
      ⊎_elim
      (λ (at : lane_timeline events (part_chunks parts) fs n ≡ Some unit).
      ⊎_elim
      (λ (event : events n ≡ Some unit).
      let taken = (held n unit event).1 in
      none_both (lane_timeline events (part_chunks parts) fs (suc n)) (again parts rs (suc n))
      (none_both (events (suc n)) (stands (part_chunks parts) fs (suc n)) (listed.apart n unit event) (no_unit_behind (suc n) taken))
      (no_again_behind (suc n) taken))
      (λ (w : (events n ≡ None) × (stands (part_chunks parts) fs n ≡ Some unit)).
      let o = unit_occupies slots 0 parts fs rs n unit stand w.1 in
      none_both (lane_timeline events (part_chunks parts) fs (suc n)) (again parts rs (suc n))
      (none_both (events (suc n)) (stands (part_chunks parts) fs (suc n)) (no_event (suc n) (o.next doubled).free) (o.no_unit doubled))
      (o.no_again doubled))
      (or_else (events n) (stands (part_chunks parts) fs n) unit at))
      (λ (w : (lane_timeline events (part_chunks parts) fs n ≡ None) × (again parts rs n ≡ Some unit)).
      let o = again_occupies slots 0 parts fs rs n unit stand w.1 in
      none_both (lane_timeline events (part_chunks parts) fs (suc n)) (again parts rs (suc n))
      (none_both (events (suc n)) (stands (part_chunks parts) fs (suc n)) (no_event (suc n) o.next.free) o.no_unit)
      o.no_again)
      (or_else (lane_timeline events (part_chunks parts) fs n) (again parts rs n) unit is)

  -- what is said of each unit is so of one that begins
  part_own : (ps : List Part) (gs : List ℕ) (n : ℕ) (unit : Unit) → AreOfChannel c ps → stands (part_chunks ps) gs n ≡ Some unit → IsOfChannel c unit
  part_own [] gs n unit own is = cc
  part_own (part ∷ ps) [] n unit own is = cc
  part_own (part ∷ ps) (g ∷ gs) n unit own is = by_slot (n == g) refl (λ rest. part_own ps gs n unit own.2 rest)
    where
      by_slot : (b : Bool) → (n == g) ≡ b → (stands (part_chunks ps) gs n ≡ Some unit → IsOfChannel c unit) → IsOfChannel c unit
      by_slot true test rest =
          let it : Some part.chunk.unit ≡ Some unit = sym (stands_at part ps g gs n true test) ∙ is in
          let same : part.chunk.unit ≡ unit = cc in subst (IsOfChannel c) same own.0
      by_slot false test rest = rest (sym (stands_at part ps g gs n false test) ∙ is)

  again_own : (ps : List Part) (qs : List (Option ℕ)) (n : ℕ) (unit : Unit) → AreOfChannel c ps → again ps qs n ≡ Some unit → IsOfChannel c unit
  again_own [] qs n unit own is = cc
  again_own (part ∷ ps) [] n unit own is = cc
  again_own (part ∷ ps) (None ∷ qs) n unit own is = again_own ps qs n unit own.2 is
  again_own (part ∷ ps) (Some q ∷ qs) n unit own is = by_slot (n == q) refl (λ rest. again_own ps qs n unit own.2 rest)
    where
      by_slot : (b : Bool) → (n == q) ≡ b → (again ps qs n ≡ Some unit → IsOfChannel c unit) → IsOfChannel c unit
      by_slot true test rest =
          let it : Some part.first ≡ Some unit = sym (again_at part ps q qs n true test) ∙ is in
          let same : part.first ≡ unit = cc in subst (IsOfChannel c) same own.1
      by_slot false test rest = rest (sym (again_at part ps q qs n false test) ∙ is)

  all_own : (n : ℕ) (unit : Unit) → whole events parts fs rs n ≡ Some unit → IsOfChannel c unit
  all_own n unit is =
      ⊎_elim
      (λ (at : lane_timeline events (part_chunks parts) fs n ≡ Some unit).
      ⊎_elim
      (λ (event : events n ≡ Some unit). listed.events_own n unit event)
      (λ (w : (events n ≡ None) × (stands (part_chunks parts) fs n ≡ Some unit)). part_own parts fs n unit listed.parts_own w.1)
      (or_else (events n) (stands (part_chunks parts) fs n) unit at))
      (λ (w : (lane_timeline events (part_chunks parts) fs n ≡ None) × (again parts rs n ≡ Some unit)). again_own parts rs n unit listed.parts_own w.1)
      (or_else (lane_timeline events (part_chunks parts) fs n) (again parts rs n) unit is)

  module _ (sound : (n : ℕ) → slots.foreign n ≡ true → slots.free n ≡ false) where
    abbrev held_at : (n : ℕ) (unit : Unit) → events n ≡ Some unit → (slots.free n ≡ false) × (slots.free (n + 1) ≡ false)
    held_at n unit is = let e : suc n ≡ n + 1 = omega arith in ((held n unit is).0, ap slots.free (sym e) ∙ (held n unit is).1)

    is_lane : IsLane slots events parts fs rs
    is_lane = record {
      sound = sound;
      held = held_at;
      controls = listed.controls;
      quiet = listed.quiet;
      cues = listed.cues;
      stand = stand;
    }

    -- its text pairs are led to, where the other lane has nothing in its spans that isn't foreign
    is_led : (other : Timeline) → ((m : ℕ) → covers 0 parts fs m ≡ true → slots.foreign m ≡ false → other m ≡ None) → IsLed (whole events parts fs rs) other
    is_led other clear n unit is text =
        ⊎_elim
        (λ (at : lane_timeline events (part_chunks parts) fs n ≡ Some unit).
        ⊎_elim
        (λ (event : events n ≡ Some unit). let wrong : is_text (code_of unit.pair) ≡ false = listed.controls n unit event in absurd (cc))
        (λ (w : (events n ≡ None) × (stands (part_chunks parts) fs n ≡ Some unit)).
        led_all slots events (lane_timeline events (part_chunks parts) fs) (whole events parts fs rs) other held_at sound 0 None parts fs rs stand (λ m from. refl) (λ m from. refl) clear listed.cues tt n unit w.1 text)
        (or_else (events n) (stands (part_chunks parts) fs n) unit at))
        (λ (w : (lane_timeline events (part_chunks parts) fs n ≡ None) × (again parts rs n ≡ Some unit)).
        let resumed = lane_resumed slots events parts fs rs is_lane n unit w.1 in
        let wrong : is_text (code_of unit.pair) ≡ false = opener_plain (code_of unit.pair) resumed.mode resumed.opens_it in absurd (cc))
        (or_else (lane_timeline events (part_chunks parts) fs n) (again parts rs n) unit is)

-- the tests of the slots
pub both_not : (a b : Bool) → (not a && not b) ≡ true → (a ≡ false) × (b ≡ false)
both_not false false is = (refl, refl)
both_not false true is = cc
both_not true b is = cc

all_not : (a b c : Bool) → (not a && (not b && not c)) ≡ true → (a ≡ false) × ((b ≡ false) × (c ≡ false))
all_not false b c is = (refl, both_not b c is)
all_not true b c is = cc

either_false : (a b : Bool) → (a || b) ≡ false → (a ≡ false) × (b ≡ false)
either_false false b is = (refl, is)
either_false true b is = cc

either_true : (a b : Bool) → (a || b) ≡ true → (a ≡ true) ⊎ (b ≡ true)
either_true true b is = inl refl
either_true false b is = inr is

false_first : (a b : Bool) → a ≡ true → (not a && b) ≡ false
false_first a b is = rw is refl

false_second : (a b : Bool) → b ≡ false → (a && b) ≡ false
false_second true b is = is
false_second false b is = refl

acts_same : (t u : Timeline) → ((n : ℕ) → t n ≡ u n) → (n : ℕ) → acts t n ≡ acts u n
acts_same t u same zero = refl
acts_same t u same (suc n) = ap (λ x. does_unit x (acts t n)) (same n) ∙ ap (does_unit (u n)) (acts_same t u same n)

due_from : (o : Option Unit) (pair : Pair) → repeat_of o ≡ Some pair → (unit : Unit) × ((o ≡ Some unit) × (unit.doubled ≡ true))
due_from None pair is = cc
due_from (Some unit) pair is = by_doubled unit.doubled refl
  where
    by_doubled : (b : Bool) → unit.doubled ≡ b → (v : Unit) × ((Some unit ≡ Some v) × (v.doubled ≡ true))
    by_doubled true twice = (unit, (refl, twice))
    by_doubled false once = let wrong : None ≡ Some pair = rw once at is in absurd (cc)

-- the units go on, from a cue's first one on
begin_first : (parts : List Part) → AreCues None parts → BeginWithFirst parts
begin_first [] cues = tt
begin_first (part ∷ parts) cues = by_later part.later refl cues.0
  where
    by_later : (later : Bool) → part.later ≡ later → IsBehind later None part → part.later ≡ false
    by_later true is behind = absurd behind
    by_later false is behind = is

goes_on : (slots : Slots) (end : ℕ) (parts : List Part) (fs : List ℕ) (rs : List (Option ℕ)) → Stand slots end parts fs rs → GoOn end parts fs
goes_on slots end [] fs rs stand = tt
goes_on slots end (part ∷ parts) [] rs stand = tt
goes_on slots end (part ∷ parts) (f ∷ fs) [] stand = absurd stand
goes_on slots end (part ∷ parts) (f ∷ fs) (r ∷ rs) stand = (stand.0.behind, goes_on slots (f + part_slots part) parts fs rs stand.2)

module _ (in_field : FieldNumber) (one two : Timeline) (parts others : List Part) (fs gs : List ℕ) (rs qs : List (Option ℕ))
    (are : AreTogether one two parts others fs gs rs qs) where
  abbrev spans : ℕ → Bool
  spans = in_spans parts fs

  abbrev slots1 : Slots
  slots1 = first_slots one two

  abbrev slots2 : Slots
  slots2 = second_slots one two (in_spans parts fs)

  -- the first lane's spans step by step
  span_is : (n : ℕ) → covers 0 parts fs n ≡ spans n
  span_is n = spans_covered parts fs (begin_first parts are.first.cues) (goes_on (first_slots one two) 0 parts fs rs are.stand) n

  abbrev t1 : Timeline
  t1 = whole one parts fs rs

  abbrev t2 : Timeline
  t2 = whole two others gs qs

  held1 : (n : ℕ) (unit : Unit) → one n ≡ Some unit → (slots1.free n ≡ false) × (slots1.free (suc n) ≡ false)
  held1 n unit is = (
    false_first (holds one n) (not (holds two n)) (held_now one n unit is),
    false_first (holds one (suc n)) (not (holds two (suc n))) (held_next one n unit is),
  )

  held2 : (n : ℕ) (unit : Unit) → two n ≡ Some unit → (slots2.free n ≡ false) × (slots2.free (suc n) ≡ false)
  held2 n unit is = (
    false_second (not (holds one n)) (not (holds two n) && not (spans n)) (false_first (holds two n) (not (spans n)) (held_now two n unit is)),
    false_second (not (holds one (suc n))) (not (holds two (suc n)) && not (spans (suc n))) (false_first (holds two (suc n)) (not (spans (suc n))) (held_next two n unit is)),
  )

  sound1 : (n : ℕ) → slots1.foreign n ≡ true → slots1.free n ≡ false
  sound1 n is = false_second (not (holds one n)) (not (holds two n)) (ap not is)

  sound2 : (n : ℕ) → slots2.foreign n ≡ true → slots2.free n ≡ false
  sound2 n is =
      ⊎_elim
      (λ (held : holds one n ≡ true). false_first (holds one n) (not (holds two n) && not (spans n)) held)
      (λ (spanned : spans n ≡ true).
      false_second (not (holds one n)) (not (holds two n) && not (spans n)) (false_second (not (holds two n)) (not (spans n)) (ap not spanned)))
      (either_true (holds one n) (spans n) is)

  source1 : (n : ℕ) (unit : Unit) → t1 n ≡ Some unit → Source slots1 (covers 0 parts fs) one n unit
  source1 = source One slots1 one parts fs rs are.first are.stand held1

  source2 : (n : ℕ) (unit : Unit) → t2 n ≡ Some unit → Source slots2 (covers 0 others gs) two n unit
  source2 = source Two slots2 two others gs qs are.second are.beside held2

  -- in the first lane's spans the second has nothing but its events
  clear1 : (m : ℕ) → covers 0 parts fs m ≡ true → slots1.foreign m ≡ false → t2 m ≡ None
  clear1 m spanned own =
      nothing_is (t2 m)
      (λ unit is.
      ⊎_elim
      (λ (event : two m ≡ Some unit). let wrong : holds two m ≡ true = held_now two m unit event in cc)
      (λ (inside : IsInside slots2 (covers 0 others gs) m × (unit.doubled ≡ true → IsInside slots2 (covers 0 others gs) (suc m))).
      let wrong : spans m ≡ false = (all_not (holds one m) (holds two m) (spans m) inside.0.free).1.1 in let other : spans m ≡ true = sym (span_is m) ∙ spanned in cc)
      (source2 m unit is))

  -- in slots that aren't foreign to the second lane the first has nothing
  clear2 : (m : ℕ) → slots2.foreign m ≡ false → t1 m ≡ None
  clear2 m own =
      let none = either_false (holds one m) (spans m) own in
      nothing_is (t1 m)
      (λ unit is.
      ⊎_elim
      (λ (event : one m ≡ Some unit). let wrong : holds one m ≡ true = held_now one m unit event in let other : holds one m ≡ false = none.0 in cc)
      (λ (inside : IsInside slots1 (covers 0 parts fs) m × (unit.doubled ≡ true → IsInside slots1 (covers 0 parts fs) (suc m))).
      let wrong : spans m ≡ true = sym (span_is m) ∙ inside.0.covered in let other : spans m ≡ false = none.1 in cc)
      (source1 m unit is))

  -- where an event of the first list holds a slot, the second lane has nothing
  none_held1 : (m : ℕ) → holds one m ≡ true → t2 m ≡ None
  none_held1 m held =
      nothing_is (t2 m)
      (λ unit is.
      ⊎_elim
      (λ (event : two m ≡ Some unit). let wrong : holds two m ≡ true = held_now two m unit event in let other : holds two m ≡ false = are.clash m held in cc)
      (λ (inside : IsInside slots2 (covers 0 others gs) m × (unit.doubled ≡ true → IsInside slots2 (covers 0 others gs) (suc m))).
      let wrong : holds one m ≡ false = (all_not (holds one m) (holds two m) (spans m) inside.0.free).0 in cc)
      (source2 m unit is))

  -- and the other way round
  none_held2 : (m : ℕ) → holds two m ≡ true → t1 m ≡ None
  none_held2 m held =
      nothing_is (t1 m)
      (λ unit is.
      ⊎_elim
      (λ (event : one m ≡ Some unit). let wrong : holds two m ≡ false = are.clash m (held_now one m unit event) in cc)
      (λ (inside : IsInside slots1 (covers 0 parts fs) m × (unit.doubled ≡ true → IsInside slots1 (covers 0 parts fs) (suc m))).
      let wrong : holds two m ≡ false = (both_not (holds one m) (holds two m) inside.0.free).1 in cc)
      (source1 m unit is))

  -- a slot of the first lane's unit, and one of the second's
  none_inside1 : (m : ℕ) → IsInside slots1 (covers 0 parts fs) m → t2 m ≡ None
  none_inside1 m inside = clear1 m inside.covered (both_not (holds one m) (holds two m) inside.free).1

  none_inside2 : (m : ℕ) → IsInside slots2 (covers 0 others gs) m → t1 m ≡ None
  none_inside2 m inside =
      let none = all_not (holds one m) (holds two m) (spans m) inside.free in
      clear2 m (rw (none.0, none.1.1) refl)

  apart : (n : ℕ) (unit : Unit) → t1 n ≡ Some unit → t2 n ≡ None
  apart n unit is =
      ⊎_elim
      (λ (event : one n ≡ Some unit). none_held1 n (held_now one n unit event))
      (λ (inside : IsInside slots1 (covers 0 parts fs) n × (unit.doubled ≡ true → IsInside slots1 (covers 0 parts fs) (suc n))). none_inside1 n inside.0)
      (source1 n unit is)

  shared : AreShared t1 t2
  shared = record {
    apart = apart;
    first = λ n unit is. (all_own One slots1 one parts fs rs are.first are.stand held1 n unit is).own;
    second = λ n unit is. (all_own Two slots2 two others gs qs are.second are.beside held2 n unit is).own;
    led_first = is_led One slots1 one parts fs rs are.first are.stand held1 sound1 t2 clear1;
    led_second = is_led Two slots2 two others gs qs are.second are.beside held2 sound2 t1 (λ m spanned. clear2 m);
  }

  -- exactly the control pairs are doubled, and nothing begins in a repeat
  behind1 : (n : ℕ) (unit : Unit) → t1 n ≡ Some unit → unit.doubled ≡ true → over t1 t2 (suc n) ≡ None
  behind1 n unit is doubled =
      none_both (t1 (suc n)) (t2 (suc n)) (spaced One slots1 one parts fs rs are.first are.stand held1 n unit is doubled)
      (⊎_elim
      (λ (event : one n ≡ Some unit). none_held1 (suc n) (held_next one n unit event))
      (λ (inside : IsInside slots1 (covers 0 parts fs) n × (unit.doubled ≡ true → IsInside slots1 (covers 0 parts fs) (suc n))). none_inside1 (suc n) (inside.1 doubled))
      (source1 n unit is))

  behind2 : (n : ℕ) (unit : Unit) → t2 n ≡ Some unit → unit.doubled ≡ true → over t1 t2 (suc n) ≡ None
  behind2 n unit is doubled =
      none_both (t1 (suc n)) (t2 (suc n))
      (⊎_elim
      (λ (event : two n ≡ Some unit). none_held2 (suc n) (held_next two n unit event))
      (λ (inside : IsInside slots2 (covers 0 others gs) n × (unit.doubled ≡ true → IsInside slots2 (covers 0 others gs) (suc n))). none_inside2 (suc n) (inside.1 doubled))
      (source2 n unit is))
      (spaced Two slots2 two others gs qs are.second are.beside held2 n unit is doubled)

  marked : IsMarked (over t1 t2)
  marked = record {
    marked = λ n unit is.
        ⊎_elim
        (λ (at : t1 n ≡ Some unit). (all_own One slots1 one parts fs rs are.first are.stand held1 n unit at).marked)
        (λ (w : (t1 n ≡ None) × (t2 n ≡ Some unit)). (all_own Two slots2 two others gs qs are.second are.beside held2 n unit w.1).marked)
        (or_else (t1 n) (t2 n) unit is);
    spaced = λ n pair due.
        let d = due_from (over t1 t2 n) pair due in
        ⊎_elim
        (λ (at : t1 n ≡ Some d.0). behind1 n d.0 at d.1.1)
        (λ (w : (t1 n ≡ None) × (t2 n ≡ Some d.0)). behind2 n d.0 w.1 d.1.1)
        (or_else (t1 n) (t2 n) d.0 d.1.0);
  }

  each : (n : ℕ) → EachIsAlone in_field one two parts others fs gs rs qs n
  each n = record {
    first =
        ap (channel One) (fields_read in_field (over t1 t2) marked n) ∙ channels_own in_field (over t1 t2) One n
        ∙ acts_same (own_of in_field One (over t1 t2)) t1 (λ m. (shared_own in_field t1 t2 shared m).first) n
        ∙ resumes_idle (lane_timeline one (part_chunks parts) fs) (again parts rs) (lane_resumed slots1 one parts fs rs (is_lane One slots1 one parts fs rs are.first are.stand held1 sound1)) n;
    second =
        ap (channel Two) (fields_read in_field (over t1 t2) marked n) ∙ channels_own in_field (over t1 t2) Two n
        ∙ acts_same (own_of in_field Two (over t1 t2)) t2 (λ m. (shared_own in_field t1 t2 shared m).second) n
        ∙ resumes_idle (lane_timeline two (part_chunks others) gs) (again others qs) (lane_resumed slots2 two others gs qs (is_lane Two slots2 two others gs qs are.second are.beside held2 sound2)) n;
  }

pub together_alone : TogetherIsAlone
together_alone in_field one two parts others fs gs rs qs are n = each in_field one two parts others fs gs rs qs are n

-- control pairs of the field are doubled, up to a slot in which nothing is due
pub together_doubled : (one two : Timeline) (parts others : List Part) (fs gs : List ℕ) (rs qs : List (Option ℕ)) → AreTogether one two parts others fs gs rs qs
    → (n : ℕ) → repeat_at (over (whole one parts fs rs) (whole two others gs qs)) n ≡ None
    → IsDoubled (column (over (whole one parts fs rs) (whole two others gs qs)) n)
together_doubled one two parts others fs gs rs qs are n ended =
    let m = marked fields.One one two parts others fs gs rs qs are in
    column_doubled (over (whole one parts fs rs) (whole two others gs qs)) m.marked m.spaced n ended

-- both lanes keep out of each other's slots
pub record AreApartLanes (t1 t2 : Timeline) : Type 0 where
  pub apart : (n : ℕ) (unit : Unit) → t1 n ≡ Some unit → t2 n ≡ None
  pub behind_first : (n : ℕ) (pair : Pair) → repeat_of (t1 n) ≡ Some pair → t2 (suc n) ≡ None
  pub behind_second : (n : ℕ) (pair : Pair) → repeat_of (t2 n) ≡ Some pair → t1 (suc n) ≡ None
  pub own : AreFor One t1

none_second : (u v : Option Unit) → option_or u v ≡ None → (u ≡ None) × (v ≡ None)
none_second None v is = (refl, is)
none_second (Some w) v is = cc

pub together_disjoint : (one two : Timeline) (parts others : List Part) (fs gs : List ℕ) (rs qs : List (Option ℕ)) → AreTogether one two parts others fs gs rs qs
    → AreApartLanes (whole one parts fs rs) (whole two others gs qs)
together_disjoint one two parts others fs gs rs qs are = record {
  apart = λ n unit is. apart fields.One one two parts others fs gs rs qs are n unit is;
  behind_first = λ n pair due.
      let d = due_from (whole one parts fs rs n) pair due in
      (none_second (whole one parts fs rs (suc n)) (whole two others gs qs (suc n)) (behind1 fields.One one two parts others fs gs rs qs are n d.0 d.1.0 d.1.1)).1;
  behind_second = λ n pair due.
      let d = due_from (whole two others gs qs n) pair due in
      (none_second (whole one parts fs rs (suc n)) (whole two others gs qs (suc n)) (behind2 fields.One one two parts others fs gs rs qs are n d.0 d.1.0 d.1.1)).0;
  own = λ n unit is. (shared fields.One one two parts others fs gs rs qs are).first n unit is;
}
