-- A placed lane's timeline: nothing begins in a repeat, and its control pairs are doubled.
use Rattle.std.proofs.Common.{◌≡◌, ℕ, ◌+◌, ◌<◌, ◌≤◌, List, [], ◌∷◌, ◌++◌, Option, Some, None, Bool, true, false, cond, eqb, refl, sym, ap, ◌∙◌, subst, arith, zero, suc, ◌⊎◌, inl, inr, ⊎_elim, IsTrue}
use Rattle.std.specs.List.{All, Contains}
use Rattle.std.specs.Option.{option_or}
use Rattle.std.proofs.lemmas.Bool.{cases_lt}
use Rattle.std.proofs.lemmas.Bool.Decides.{nat_tests}
use Rattle.std.proofs.lemmas.List.Elements.{All-head, All-tail, All-contains, Contains-append_right}
use Rattle.line21_codes.specs.declared.pairs.Pair.{Pair}
use Rattle.line21_codes.specs.ControlPairs.{is_control}
use Rattle.line21_author.specs.declared.unit.Unit.{Unit}
use Rattle.line21_author.specs.declared.event.Event.{Event}
use Rattle.lanes.specs.declared.chunk.FieldChunk.{FieldChunk}
use Rattle.lanes.specs.Timeline.{IsSpaced, repeat_of, repeat_at, column}
use Rattle.lanes.specs.LaneEvents.{IsFree, AreOver, event_at}
use Rattle.line21_author.specs.EventOrder.{AreFrom, AreApart}
use Rattle.lanes.specs.FieldLane.{slots_of, end_of, IsAllowedInField, field_lane}
use Rattle.lanes.specs.LaneTimeline.{stands, lane_timeline}
use Rattle.lanes.specs.LaneDoubling.{AreDoubledControls, AreEnded}
use Rattle.lanes.specs.DoubledPairs.{IsDoubled}
use Rattle.lanes.specs.Placing.{IsPlaced}
use Rattle.lanes.proofs.FieldLaneLemmas.{end_push}
use Rattle.lanes.proofs.EventLemmas.{event_none, some_slot}
use Rattle.lanes.proofs.ColumnLemmas.{IsMarked, column_doubled}

-- what begins at a frame where an event does
pub at_event : (e : Event) (es : List Event) (n : ℕ) → (b : Bool) → eqb n e.slot ≡ b → event_at (e ∷ es) n ≡ cond b (Some (record { pair = e.pair; doubled = true })) (event_at es n)
at_event e es n b is = ap (λ c. cond c (Some (record { pair = e.pair; doubled = true })) (event_at es n)) is

-- where an event begins, two slots aren't free
pub event_held : (es : List Event) (n : ℕ) (u : Unit) → event_at es n ≡ Some u → (IsFree es n → ⊥) × (IsFree es (n + 1) → ⊥)
event_held [] n u is = (λ f. cc, λ f. cc)
event_held (e ∷ es) n u is = go (event_held es n u) (eqb n e.slot) refl
  where
    go : (event_at es n ≡ Some u → (IsFree es n → ⊥) × (IsFree es (n + 1) → ⊥)) → (b : Bool) → eqb n e.slot ≡ b
        → (IsFree (e ∷ es) n → ⊥) × (IsFree (e ∷ es) (n + 1) → ⊥)
    go rest true b =
        let here : n ≡ e.slot = grind (arith, nat_tests) in
        (λ f. f.0 (sym here), λ f. f.1 (ap (λ m. m + 1) (sym here)))
    go rest false b =
        let w = rest (sym (at_event e es n false b) ∙ is) in
        (λ f. w.0 f.2, λ f. w.1 f.2)

-- nothing begins in the second slot of an event among events that lie apart
event_apart : (es : List Event) (n : ℕ) (u : Unit) → AreApart es → event_at es n ≡ Some u → event_at es (n + 1) ≡ None
event_apart [] n u apart is = refl
event_apart (e ∷ es) n u apart is = go (event_apart es n u apart.1) (eqb n e.slot) refl
  where
    go : (event_at es n ≡ Some u → event_at es (n + 1) ≡ None) → (b : Bool) → eqb n e.slot ≡ b → event_at (e ∷ es) (n + 1) ≡ None
    go onward true b =
        let here : n ≡ e.slot = grind (arith, nat_tests) in
        let next : eqb (n + 1) e.slot ≡ false = grind (arith, nat_tests) in
        at_event e es (n + 1) false next ∙ event_none (e.slot + 2) (n + 1) es apart.0 (omega arith)
    go onward false b =
        let rest : event_at es n ≡ Some u = sym (at_event e es n false b) ∙ is in
        let later : e.slot + 2 ≤ n = begins_from es (e.slot + 2) apart.0 rest in
        let next : eqb (n + 1) e.slot ≡ false = grind (arith, nat_tests) in
        at_event e es (n + 1) false next ∙ onward rest
      where
        begins_from : (es : List Event) (m : ℕ) → AreFrom m es → event_at es n ≡ Some u → m ≤ n
        begins_from es m from at = ⊎_elim
            (λ (h : n < m). let none : event_at es n ≡ None = event_none m n es from h in let f : Some u ≡ None = sym at ∙ none in absurd (cc))
            (λ (h : m ≤ n). h) (cases_lt n m)

-- an event is a doubled control pair
event_marked : (es : List Event) (n : ℕ) (u : Unit) → All (λ e. IsTrue (is_control e.pair)) es → event_at es n ≡ Some u → is_control u.pair ≡ u.doubled
event_marked [] n u all is = cc
event_marked (e ∷ es) n u all is = go (event_marked es n u (All-tail (λ e. IsTrue (is_control e.pair)) e es all)) (eqb n e.slot) refl
  where
    go : (event_at es n ≡ Some u → is_control u.pair ≡ u.doubled) → (b : Bool) → eqb n e.slot ≡ b → is_control u.pair ≡ u.doubled
    go rest true b =
        let same : Some (record { pair = e.pair; doubled = true }) ≡ Some u = sym (at_event e es n true b) ∙ is in
        let it : record { pair = e.pair; doubled = true } ≡ u = cc in
        let control : is_control e.pair ≡ true = All-head (λ e. IsTrue (is_control e.pair)) e es all in
        subst (λ (v : Unit). is_control v.pair ≡ v.doubled) it control
    go rest false b = rest (sym (at_event e es n false b) ∙ is)

-- no event begins in the last slot before a frame by which they are over
event_over : (es : List Event) (k : ℕ) → AreOver (k + 1) es → event_at es k ≡ None
event_over [] k a = refl
event_over (e ∷ es) k a =
    let test : eqb k e.slot ≡ false = let h : e.slot + 2 ≤ k + 1 = a.0 in grind (arith, nat_tests) in
    at_event e es k false test ∙ event_over es k a.1

-- what begins at a frame where a unit stands
pub at_unit : (p : FieldChunk) (ps : List FieldChunk) (f : ℕ) (fs : List ℕ) (n : ℕ) → (b : Bool) → eqb n f ≡ b → stands (p ∷ ps) (f ∷ fs) n ≡ cond b (Some p.unit) (stands ps fs n)
at_unit p ps f fs n b is = ap (λ c. cond c (Some p.unit) (stands ps fs n)) is

-- no unit begins before the end of those before it
placed_none : (events : List Event) (before : List (FieldChunk × ℕ)) (ps : List FieldChunk) (fs : List ℕ) (n : ℕ) → IsPlaced (field_lane events) before ps fs
    → n < end_of before → stands ps fs n ≡ None
placed_none events before [] fs n placed h = refl
placed_none events before (p ∷ ps) [] n placed h = refl
placed_none events before (p ∷ ps) (f ∷ fs) n placed h =
    let behind : end_of before ≤ f = placed.0.behind in
    let test : eqb n f ≡ false = grind (arith, nat_tests) in
    at_unit p ps f fs n false test ∙ placed_none events (before ++ (p, f) ∷ []) ps fs n placed.1 (omega (arith, end_push before p f, some_slot f p))

-- what is contained in the rest is contained in all
Contains-cons : (p : FieldChunk) (ps : List FieldChunk) (q : FieldChunk) → Contains ps q → Contains (p ∷ ps) q
Contains-cons p ps q c = Contains-append_right (p ∷ []) ps q c

-- a doubled unit takes two slots
two_slots : (p : FieldChunk) (u : Unit) → p.unit ≡ u → u.doubled ≡ true → slots_of p ≡ 2
two_slots p u is doubled = ap (λ (v : Unit). cond v.doubled 2 1) is ∙ ap (λ b. cond b 2 1) doubled

-- a unit that begins at a frame: its chunk is allowed there
pub record Begins (events : List Event) (ps : List FieldChunk) (n : ℕ) (u : Unit) : Type 0 where
  pub chunk : FieldChunk
  pub unit_is : chunk.unit ≡ u
  pub allowed : IsAllowedInField events 0 chunk n
  pub among : Contains ps chunk

-- each unit of a placement is allowed where it begins, and none begins in its slots
pub unit_begins : (events : List Event) (before : List (FieldChunk × ℕ)) (ps : List FieldChunk) (fs : List ℕ) (n : ℕ) (u : Unit) → IsPlaced (field_lane events) before ps fs
    → stands ps fs n ≡ Some u → Begins events ps n u × (u.doubled ≡ true → stands ps fs (n + 1) ≡ None)
unit_begins events before [] fs n u placed is = cc
unit_begins events before (p ∷ ps) [] n u placed is = cc
unit_begins events before (p ∷ ps) (f ∷ fs) n u placed is = go (unit_begins events (before ++ (p, f) ∷ []) ps fs n u placed.1) (eqb n f) refl
  where
    go : (stands ps fs n ≡ Some u → Begins events ps n u × (u.doubled ≡ true → stands ps fs (n + 1) ≡ None)) → (b : Bool) → eqb n f ≡ b
        → Begins events (p ∷ ps) n u × (u.doubled ≡ true → stands (p ∷ ps) (f ∷ fs) (n + 1) ≡ None)
    go onward true b =
        let here : f ≡ n = grind (arith, nat_tests) in
        let same : Some p.unit ≡ Some u = sym (at_unit p ps f fs n true b) ∙ is in
        let it : p.unit ≡ u = cc in
        let a : IsAllowedInField events 0 p f = record { behind = omega arith; loaded = placed.0.loaded; ended = placed.0.ended; free = placed.0.free } in
        let next : eqb (n + 1) f ≡ false = grind (arith, nat_tests) in (
          record { chunk = p; unit_is = it; allowed = subst (λ m. IsAllowedInField events 0 p m) here a; among = (0, omega arith, refl) },
          λ doubled.
              let two : slots_of p ≡ 2 = two_slots p u it doubled in
              at_unit p ps f fs (n + 1) false next ∙
              placed_none events (before ++ (p, f) ∷ []) ps fs (n + 1) placed.1 (omega (arith, end_push before p f)),
        )
    go onward false b =
        let rest : stands ps fs n ≡ Some u = sym (at_unit p ps f fs n false b) ∙ is in
        let w = onward rest in
        let later : f + 1 ≤ n = ⊎_elim
        (λ (h : n < end_of (before ++ (p, f) ∷ [])).
        let none : stands ps fs n ≡ None = placed_none events (before ++ (p, f) ∷ []) ps fs n placed.1 h in
        let g : Some u ≡ None = sym rest ∙ none in absurd (cc))
        (λ (h : end_of (before ++ (p, f) ∷ []) ≤ n). omega (arith, end_push before p f, some_slot f p, h))
        (cases_lt n (end_of (before ++ (p, f) ∷ []))) in
        let next : eqb (n + 1) f ≡ false = grind (arith, nat_tests) in
        (record { chunk = w.0.chunk; unit_is = w.0.unit_is; allowed = w.0.allowed; among = Contains-cons p ps w.0.chunk w.0.among }, λ doubled. at_unit p ps f fs (n + 1) false next ∙ w.1 doubled)

-- what is said of each unit is so of one that begins
unit_all : (P : FieldChunk → Type 0) (ps : List FieldChunk) (fs : List ℕ) (n : ℕ) (u : Unit) → All P ps → stands ps fs n ≡ Some u → (p : FieldChunk) × (p.unit ≡ u) × P p
unit_all P [] fs n u all is = cc
unit_all P (p ∷ ps) [] n u all is = cc
unit_all P (p ∷ ps) (f ∷ fs) n u all is = go (unit_all P ps fs n u (All-tail P p ps all)) (eqb n f) refl
  where
    go : (stands ps fs n ≡ Some u → (p : FieldChunk) × (p.unit ≡ u) × P p) → (b : Bool) → eqb n f ≡ b → (p : FieldChunk) × (p.unit ≡ u) × P p
    go rest true b =
        let same : Some p.unit ≡ Some u = sym (at_unit p ps f fs n true b) ∙ is in
        let it : p.unit ≡ u = cc in
        (p, it, All-head P p ps all)
    go rest false b = rest (sym (at_unit p ps f fs n false b) ∙ is)

-- in the lane's timeline what begins is an event, or else a unit
pub over_cases : (events : List Event) (chunks : List FieldChunk) (fs : List ℕ) (n : ℕ) (u : Unit) → lane_timeline (event_at events) chunks fs n ≡ Some u
    → (event_at events n ≡ Some u) ⊎ ((event_at events n ≡ None) × (stands chunks fs n ≡ Some u))
over_cases events chunks fs n u is = go (event_at events n) refl
  where
    go : (e : Option Unit) → event_at events n ≡ e → (event_at events n ≡ Some u) ⊎ ((event_at events n ≡ None) × (stands chunks fs n ≡ Some u))
    go None none = inr (none, sym (ap (λ o. option_or o (stands chunks fs n)) none) ∙ is)
    go (Some v) some = inl (some ∙ sym (ap (λ o. option_or o (stands chunks fs n)) some) ∙ is)

-- where neither begins, nothing does
over_none : (events : List Event) (chunks : List FieldChunk) (fs : List ℕ) (n : ℕ) → event_at events n ≡ None → stands chunks fs n ≡ None
    → lane_timeline (event_at events) chunks fs n ≡ None
over_none events chunks fs n a b = ap (λ o. option_or o (stands chunks fs n)) a ∙ b

-- no event begins in a slot that is free
pub free_none : (events : List Event) (n : ℕ) → IsFree events n → event_at events n ≡ None
free_none events n free = go (event_at events n) refl
  where
    go : (e : Option Unit) → event_at events n ≡ e → event_at events n ≡ None
    go None is = is
    go (Some u) is = absurd ((event_held events n u is).0 free)

-- no unit begins in the slots of an event
pub held_none : (events : List Event) (chunks : List FieldChunk) (fs : List ℕ) (n : ℕ) → IsPlaced (field_lane events) [] chunks fs → (IsFree events n → ⊥) → stands chunks fs n ≡ None
held_none events chunks fs n placed held = go (stands chunks fs n) refl
  where
    go : (o : Option Unit) → stands chunks fs n ≡ o → stands chunks fs n ≡ None
    go None is = is
    go (Some u) is =
        let b = (unit_begins events [] chunks fs n u placed is).0 in
        absurd (held (b.allowed.free n (omega arith) (some_slot n b.chunk)))

-- what is due after a frame comes from a doubled unit that begins there
due_from : (o : Option Unit) (p : Pair) → repeat_of o ≡ Some p → (u : Unit) × (o ≡ Some u) × (u.doubled ≡ true)
due_from None p is = cc
due_from (Some u) p is = go u.doubled refl
  where
    go : (b : Bool) → u.doubled ≡ b → (v : Unit) × (Some u ≡ Some v) × (v.doubled ≡ true)
    go true d = (u, refl, d)
    go false d = let h : None ≡ Some p = rw d at is in absurd (cc)

-- nothing begins in a repeat of a placed lane whose events lie apart
pub lane_spaced : (events : List Event) (chunks : List FieldChunk) (fs : List ℕ) → AreApart events → IsPlaced (field_lane events) [] chunks fs
    → IsSpaced (lane_timeline (event_at events) chunks fs)
lane_spaced events chunks fs apart placed n p due =
    let d = due_from (lane_timeline (event_at events) chunks fs n) p due in
    let none : lane_timeline (event_at events) chunks fs (n + 1) ≡ None =
    ⊎_elim (at d.0) (behind d.0 d.2) (over_cases events chunks fs n d.0 d.1) in
    let e : n + 1 ≡ suc n = omega arith in
    subst (λ m. lane_timeline (event_at events) chunks fs m ≡ None) e none
  where
    at : (u : Unit) → event_at events n ≡ Some u → lane_timeline (event_at events) chunks fs (n + 1) ≡ None
    at u is = over_none events chunks fs (n + 1) (event_apart events n u apart is) (held_none events chunks fs (n + 1) placed (event_held events n u is).1)

    behind : (u : Unit) → u.doubled ≡ true → (event_at events n ≡ None) × (stands chunks fs n ≡ Some u) → lane_timeline (event_at events) chunks fs (n + 1) ≡ None
    behind u doubled w =
        let b = unit_begins events [] chunks fs n u placed w.1 in
        let two : slots_of b.0.chunk ≡ 2 = two_slots b.0.chunk u b.0.unit_is doubled in
        over_none events chunks fs (n + 1) (free_none events (n + 1) (b.0.allowed.free (n + 1) (omega arith) (omega arith))) (b.1 doubled)

-- what begins in the lane is doubled exactly where it is a control pair
pub lane_marked : (events : List Event) (chunks : List FieldChunk) (fs : List ℕ) → AreDoubledControls events chunks → IsMarked (lane_timeline (event_at events) chunks fs)
lane_marked events chunks fs all n u is =
    ⊎_elim
    (λ (a : event_at events n ≡ Some u). event_marked events n u all.events_are a)
    (λ (w : (event_at events n ≡ None) × (stands chunks fs n ≡ Some u)).
    let m = unit_all (λ chunk. is_control chunk.unit.pair ≡ chunk.unit.doubled) chunks fs n u all.chunks_are w.1 in
    subst (λ (v : Unit). is_control v.pair ≡ v.doubled) m.1 m.2)
    (over_cases events chunks fs n u is)

-- nothing is due at a frame by which all has ended
pub lane_ended : (events : List Event) (chunks : List FieldChunk) (fs : List ℕ) (n : ℕ) → AreEnded events chunks n → IsPlaced (field_lane events) [] chunks fs
    → repeat_at (lane_timeline (event_at events) chunks fs) n ≡ None
lane_ended events chunks fs zero ended placed = refl
lane_ended events chunks fs (suc k) ended placed = go (repeat_of (lane_timeline (event_at events) chunks fs k)) refl
  where
    no_event : event_at events k ≡ None
    no_event = event_over events k (let e : suc k ≡ k + 1 = omega arith in subst (λ m. AreOver m events) e ended.events_are)

    inside : (ps : List FieldChunk) (gs : List ℕ) (before : List (FieldChunk × ℕ)) (u : Unit) → All (λ chunk. chunk.until ≤ suc k) ps → IsPlaced (field_lane events) before ps gs
        → stands ps gs k ≡ Some u → u.doubled ≡ true → ⊥
    inside ps gs before u all placed is doubled =
        let b = (unit_begins events before ps gs k u placed is).0 in
        let within : b.chunk.until ≤ suc k = All-contains (λ chunk. chunk.until ≤ suc k) ps b.chunk all b.among in
        let two : slots_of b.chunk ≡ 2 = two_slots b.chunk u b.unit_is doubled in
        omega (arith, b.allowed.ended)

    go : (r : Option Pair) → repeat_of (lane_timeline (event_at events) chunks fs k) ≡ r → repeat_of (lane_timeline (event_at events) chunks fs k) ≡ None
    go None is = is
    go (Some p) is =
        let d = due_from (lane_timeline (event_at events) chunks fs k) p is in
        absurd (⊎_elim
        (λ (a : event_at events k ≡ Some d.0). let f : Some d.0 ≡ None = sym a ∙ no_event in cc)
        (λ (w : (event_at events k ≡ None) × (stands chunks fs k ≡ Some d.0)). inside chunks fs [] d.0 ended.chunks_are placed w.1 d.2)
        (over_cases events chunks fs k d.0 d.1))

-- the control pairs of a placed lane are doubled
pub lane_doubled : (events : List Event) (chunks : List FieldChunk) (fs : List ℕ) (n : ℕ) → AreApart events → AreDoubledControls events chunks → AreEnded events chunks n
    → IsPlaced (field_lane events) [] chunks fs → IsDoubled (column (lane_timeline (event_at events) chunks fs) n)
lane_doubled events chunks fs n apart all ended placed =
    column_doubled (lane_timeline (event_at events) chunks fs) (lane_marked events chunks fs all) (lane_spaced events chunks fs apart placed) n
    (lane_ended events chunks fs n ended placed)
