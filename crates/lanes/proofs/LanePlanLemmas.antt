-- A lane that is placed: its units one by one, and that its cursor is ready at slot 0.
use Rattle.std.proofs.Common.{◌≡◌, ◌∙◌, ◌+◌, ◌<◌, ◌≤◌, ℕ, List, [], ◌∷◌, ◌++◌, Some, None, cond, eqb, refl, sym, ap, subst, arith, length, get_or, take}
use Rattle.std.proofs.Math.Path.{fun_ext}
use Rattle.std.proofs.lemmas.List.{take_more, take_all}
use Rattle.std.specs.List.{zip}
use Rattle.line21_codes.specs.declared.pairs.Pair.{Pair}
use Rattle.line21_author.specs.EventOrder.{AreFrom, AreApart}
use Rattle.line21_author.specs.declared.event.Event.{Event}
use Rattle.lanes.specs.FieldLane.{IsAllowedInField, end_of, field_lane, slots_of}
use Rattle.lanes.specs.FirstFit.{IsFirst}
use Rattle.lanes.specs.LaneCursor.{AreUnitsFrom, AreUnitsRising, GivesSlot, IsReadyForPairs}
use Rattle.lanes.specs.LaneEvents.{event_at}
use Rattle.lanes.specs.FieldPlan.{AreInEarliest, field_chunk_cue}
use Rattle.lanes.specs.LaneRoom.{AreInCueOrder, IsFirstCrowded}
use Rattle.lanes.specs.LaneTimeline.{in_slots, lane_timeline, placed_timeline, stands, unit_at}
use Rattle.lanes.specs.Placing.{IsEarliest, IsPlaced}
use Rattle.lanes.specs.Timeline.{IsSpaced, Timeline, over}
use Rattle.lanes.specs.declared.field_cursor.Cursor.{Cursor}
use Rattle.lanes.specs.declared.chunk.FieldChunk.{FieldChunk}
use Rattle.lanes.specs.declared.placed_unit.PlacedUnit.{PlacedUnit}
use Rattle.lanes.proofs.CursorLemmas.{units_earlier}
use Rattle.lanes.proofs.DoublingLemmas.{event_held, held_none, lane_spaced}
use Rattle.lanes.proofs.EventLemmas.{some_slot}
use Rattle.lanes.proofs.FieldLaneLemmas.{end_push, fits_earlier, lane_one_more}
use Rattle.lanes.proofs.LaneRoomLemmas.{no_room_at}
use Rattle.lanes.proofs.PlacingLemmas.{zip_push}

-- the units of a placement with one more
in_slots_push : (events : List Event) (before : List (FieldChunk × ℕ)) (us : List FieldChunk) (fs : List ℕ) (u : FieldChunk) (f : ℕ) → IsPlaced (field_lane events) before us fs
    → in_slots (us ++ u ∷ []) (fs ++ f ∷ []) ≡ in_slots us fs ++ record { unit = u.unit; slot = f } ∷ []
in_slots_push events before [] [] u f p = refl
in_slots_push events before [] (g ∷ fs) u f p = absurd p
in_slots_push events before (v ∷ us) [] u f p = absurd p
in_slots_push events before (v ∷ us) (g ∷ fs) u f p =
    ap (λ l. record { unit = v.unit; slot = g } ∷ l) (in_slots_push events (before ++ (v, g) ∷ []) us fs u f p.1)

-- the units in their earliest placement, with its end
pub record Reaches (events : List Event) (us : List FieldChunk) (units : List PlacedUnit) (end : ℕ) : Type 0 where
  pub slots : List ℕ
  pub earliest : IsEarliest (field_lane events) us slots
  pub units_are : units ≡ in_slots us slots
  pub end_is : end ≡ end_of (zip us slots)

-- one more unit in the first slot that is allowed for it
reaches_push : (events : List Event) (us : List FieldChunk) (units : List PlacedUnit) (end : ℕ) (u : FieldChunk) (f : ℕ) → Reaches events us units end
    → IsFirst (IsAllowedInField events end u) f → Reaches events (us ++ u ∷ []) (units ++ record { unit = u.unit; slot = f } ∷ []) (f + slots_of u)
reaches_push events us units end u f r first =
    let here : IsFirst (IsAllowedInField events (end_of (zip us r.slots)) u) f = subst (λ e. IsFirst (IsAllowedInField events e u) f) r.end_is first in
    record {
      slots = r.slots ++ f ∷ [];
      earliest = (lane_one_more events us r.slots u r.earliest).first f here.holds here.first;
      units_are = ap (λ l. l ++ record { unit = u.unit; slot = f } ∷ []) r.units_are ∙ sym (in_slots_push events [] us r.slots u f r.earliest.placed);
      end_is = sym (ap end_of (zip_push (field_lane events) [] us r.slots u f r.earliest.placed) ∙ end_push (zip us r.slots) u f);
    }

-- one more of the lane's units is placed
pub reaches_next : (events : List Event) (us : List FieldChunk) (k : ℕ) (d : FieldChunk) (units : List PlacedUnit) (end new f : ℕ) → k < length us
    → Reaches events (take k us) units end → IsFirst (IsAllowedInField events end (get_or us k d)) f → new ≡ f + slots_of (get_or us k d)
    → Reaches events (take (k + 1) us) (units ++ record { unit = (get_or us k d).unit; slot = f } ∷ []) new
reaches_next events us k d units end new f h r first after =
    subst (λ n. Reaches events (take (k + 1) us) (units ++ record { unit = (get_or us k d).unit; slot = f } ∷ []) n) (sym after)
    (subst (λ l. Reaches events l (units ++ record { unit = (get_or us k d).unit; slot = f } ∷ []) (f + slots_of (get_or us k d))) (sym (take_more us k d h))
    (reaches_push events (take k us) units end (get_or us k d) f r first))

-- where no slot is allowed for the next unit, its cue is the first without room
pub reaches_none : (events : List Event) (us : List FieldChunk) (k : ℕ) (d : FieldChunk) (units : List PlacedUnit) (end : ℕ) → AreInCueOrder field_chunk_cue us → k < length us
    → Reaches events (take k us) units end → ((f : ℕ) → IsAllowedInField events end (get_or us k d) f → ⊥)
    → IsFirstCrowded (field_lane events) field_chunk_cue us (get_or us k d).cue
reaches_none events us k d units end order h r nowhere =
    no_room_at field_chunk_cue (field_lane events) (fits_earlier events) us k d r.slots order h r.earliest (take_more us k d h)
    (subst (λ e. (f : ℕ) → IsAllowedInField events e (get_or us k d) f → ⊥) r.end_is nowhere)

-- all of the lane's units are placed
pub reaches_all : (events : List Event) (us : List FieldChunk) (k : ℕ) (units : List PlacedUnit) (end : ℕ) → length us ≤ k → Reaches events (take k us) units end
    → AreInEarliest events us units
reaches_all events us k units end h r =
    let all : take k us ≡ us = take_all k us h in
    (r.slots, subst (λ l. IsEarliest (field_lane events) l r.slots) all r.earliest, subst (λ l. units ≡ in_slots l r.slots) all r.units_are)

-- the units in their slots begin where they stand
unit_stands : (ps : List FieldChunk) (fs : List ℕ) (n : ℕ) → unit_at (in_slots ps fs) n ≡ stands ps fs n
unit_stands [] fs n = refl
unit_stands (p ∷ ps) [] n = refl
unit_stands (p ∷ ps) (f ∷ fs) n = ap (λ rest. cond (eqb n f) (Some p.unit) rest) (unit_stands ps fs n)

-- so the timelines are one
pub timeline_is : (events : List Event) (ps : List FieldChunk) (fs : List ℕ) → placed_timeline events (in_slots ps fs) ≡ lane_timeline (event_at events) ps fs
timeline_is events ps fs = ap (λ t. over (event_at events) t) (fun_ext (unit_stands ps fs))

-- placed units are in the order of their slots
rising : (events : List Event) (before : List (FieldChunk × ℕ)) (ps : List FieldChunk) (fs : List ℕ) → IsPlaced (field_lane events) before ps fs
    → AreUnitsFrom (end_of before) (in_slots ps fs) × AreUnitsRising (in_slots ps fs)
rising events before [] fs placed = (tt, tt)
rising events before (p ∷ ps) [] placed = (tt, tt)
rising events before (p ∷ ps) (f ∷ fs) placed =
    let rest = rising events (before ++ (p, f) ∷ []) ps fs placed.1 in
    let behind : end_of before ≤ f = placed.0.behind in
    let end : end_of (before ++ (p, f) ∷ []) ≡ f + slots_of p = end_push before p f in
    let some : f < f + slots_of p = some_slot f p in (
      (behind, units_earlier (end_of before) (end_of (before ++ (p, f) ∷ [])) (in_slots ps fs) (omega arith) rest.0),
      (units_earlier (f + 1) (end_of (before ++ (p, f) ∷ [])) (in_slots ps fs) (omega arith) rest.0, rest.1),
    )

-- events are from slot 0 on
from_start : (events : List Event) → AreFrom 0 events
from_start [] = tt
from_start (e ∷ events) = (omega arith, from_start events)

-- at slot 0, wherever the units are placed
pub ready_placed : (events : List Event) (chunks : List FieldChunk) (fs : List ℕ) (units : List PlacedUnit) → AreApart events → IsPlaced (field_lane events) [] chunks fs → units ≡ in_slots chunks fs
    → IsReadyForPairs (placed_timeline events units) events units (record { slot = 0; next_unit = 0; next_event = 0; repeat = None })
ready_placed events chunks fs units apart placed is =
    subst (λ us. IsReadyForPairs (placed_timeline events us) events us (record { slot = 0; next_unit = 0; next_event = 0; repeat = None })) (sym is) (record {
      same = λ n h. refl;
      due = refl;
      spaced = subst IsSpaced (sym (timeline_is events chunks fs)) (lane_spaced events chunks fs apart placed);
      events_from = from_start events;
      events_apart = apart;
      units_from = (rising events [] chunks fs placed).0;
      units_rising = (rising events [] chunks fs placed).1;
      beside = λ n u some. unit_stands chunks fs n ∙ held_none events chunks fs n placed (event_held events n u some).0;
    })

pub ready_start : (events : List Event) (chunks : List FieldChunk) (units : List PlacedUnit) → AreApart events → AreInEarliest events chunks units
    → IsReadyForPairs (placed_timeline events units) events units (record { slot = 0; next_unit = 0; next_event = 0; repeat = None })
ready_start events chunks units apart (fs, earliest, is) = ready_placed events chunks fs units apart earliest.placed is

-- what a step gives over lists that are equal
pub gives_at : (es events : List Event) (us units : List PlacedUnit) (old new : Cursor) (pair : Pair) → es ≡ events → us ≡ units
    → ((t : Timeline) → IsReadyForPairs t es us old → GivesSlot t es us old new pair) → (t : Timeline) → IsReadyForPairs t events units old → GivesSlot t events units old new pair
gives_at es events us units old new pair e p gives =
    subst (λ l. (t : Timeline) → IsReadyForPairs t events l old → GivesSlot t events l old new pair) p
    (subst (λ l. (t : Timeline) → IsReadyForPairs t l us old → GivesSlot t l us old new pair) e gives)
