-- One step of a lane's cursor: a repeat, an event, a unit, or nothing at its slot.
use Rattle.std.proofs.Common.{◌≡◌, ◌≢◌, ℕ, ◌+◌, ◌<◌, ◌≤◌, List, [], ◌∷◌, Option, Some, None, Bool, true, false, eqb, refl, sym, ap, ◌∙◌, subst, arith, drop, option_map, unwrap_or, suc, zero}
use Rattle.std.specs.Option.{option_or}
use Rattle.std.proofs.lemmas.Bool.Decides.{nat_tests}
use Rattle.line21_codes.specs.declared.pairs.Pair.{Pair}
use Rattle.line21_codes.specs.NullPairs.{null_pair}
use Rattle.line21_author.specs.declared.unit.Unit.{Unit}
use Rattle.line21_author.specs.declared.event.Event.{Event}
use Rattle.line21_author.specs.EventOrder.{AreFrom, AreApart}
use Rattle.lanes.specs.declared.field_cursor.Cursor.{Cursor}
use Rattle.lanes.specs.declared.placed_unit.PlacedUnit.{PlacedUnit}
use Rattle.lanes.specs.Timeline.{IsSpaced, Timeline, repeat_of, repeat_at, slot}
use Rattle.lanes.specs.LaneEvents.{event_at}
use Rattle.lanes.specs.LaneTimeline.{unit_at}
use Rattle.lanes.specs.LaneCursor.{AreUnitsFrom, AreUnitsRising, IsAhead, IsReadyForPairs, GivesSlot, IsNext}
use Rattle.lanes.proofs.EventLemmas.{from_earlier, from_first, event_none}
use Rattle.lanes.proofs.NextLemmas.{next_from_drop}

-- what begins isn't nothing
some_none : (u : Unit) → Some u ≡ None → ⊥
some_none u is = cc

-- units from a slot on are from an earlier one on
pub units_earlier : (m n : ℕ) (us : List PlacedUnit) → m ≤ n → AreUnitsFrom n us → AreUnitsFrom m us
units_earlier m n [] h a = tt
units_earlier m n (u ∷ us) h a = (omega (arith, a.0), units_earlier m n us h a.1)

-- the units are from a slot on where the first one is
units_first : (n : ℕ) (us : List PlacedUnit) → AreUnitsRising us → ((u : PlacedUnit) (rest : List PlacedUnit) → us ≡ u ∷ rest → n ≤ u.slot) → AreUnitsFrom n us
units_first n [] rising h = tt
units_first n (u ∷ us) rising h = let here : n ≤ u.slot = h u us refl in (here, units_earlier n (u.slot + 1) us (omega arith) rising.0)

-- no unit begins before the first one
unit_none : (m n : ℕ) (us : List PlacedUnit) → AreUnitsFrom m us → n < m → unit_at us n ≡ None
unit_none m n [] a h = refl
unit_none m n (u ∷ us) a h =
    let later : m ≤ u.slot = a.0 in
    let rest : unit_at us n ≡ None = unit_none m n us a.1 h in
    grind (arith, nat_tests)

-- what begins where the first event does, and elsewhere
at_first : (e : Event) (es : List Event) (n : ℕ) → e.slot ≡ n → event_at (e ∷ es) n ≡ Some (record { pair = e.pair; doubled = true })
at_first e es n here = let test : eqb n e.slot ≡ true = grind (arith, nat_tests) in rw test refl

passed_event : (e : Event) (es : List Event) (n : ℕ) → e.slot ≢ n → event_at (e ∷ es) n ≡ event_at es n
passed_event e es n apart = let test : eqb n e.slot ≡ false = grind (arith, nat_tests) in rw test refl

-- what begins where the first unit does, and elsewhere
at_first_unit : (u : PlacedUnit) (us : List PlacedUnit) (n : ℕ) → u.slot ≡ n → unit_at (u ∷ us) n ≡ Some u.unit
at_first_unit u us n here = let test : eqb n u.slot ≡ true = grind (arith, nat_tests) in rw test refl

passed_unit : (u : PlacedUnit) (us : List PlacedUnit) (n : ℕ) → u.slot ≢ n → unit_at (u ∷ us) n ≡ unit_at us n
passed_unit u us n apart = let test : eqb n u.slot ≡ false = grind (arith, nat_tests) in rw test refl

-- where no event begins at their first slot, they begin after it
events_behind : (es : List Event) (n : ℕ) → AreFrom n es → AreApart es → event_at es n ≡ None → AreFrom (n + 1) es
events_behind es n from apart none = from_first (n + 1) es apart (behind es from none)
  where
    behind : (ds : List Event) → AreFrom n ds → event_at ds n ≡ None → (e : Event) (rest : List Event) → ds ≡ e ∷ rest → n + 1 ≤ e.slot
    behind [] from none e rest is = cc
    behind (d ∷ ds) from none e rest is =
        let same : d ≡ e = cc in
        let other : d.slot ≢ n = λ here. some_none (record { pair = d.pair; doubled = true }) (sym (at_first d ds n here) ∙ none) in
        subst (λ (x : Event). n + 1 ≤ x.slot) same (omega (arith, other, from.0))

-- so do units
units_behind : (us : List PlacedUnit) (n : ℕ) → AreUnitsFrom n us → AreUnitsRising us → unit_at us n ≡ None → AreUnitsFrom (n + 1) us
units_behind us n from rising none = units_first (n + 1) us rising (behind us from none)
  where
    behind : (vs : List PlacedUnit) → AreUnitsFrom n vs → unit_at vs n ≡ None → (u : PlacedUnit) (rest : List PlacedUnit) → vs ≡ u ∷ rest → n + 1 ≤ u.slot
    behind [] from none u rest is = cc
    behind (v ∷ vs) from none u rest is =
        let same : v ≡ u = cc in
        let other : v.slot ≢ n = λ here. some_none v.unit (sym (at_first_unit v vs n here) ∙ none) in
        subst (λ (x : PlacedUnit). n + 1 ≤ x.slot) same (omega (arith, other, from.0))

-- nothing begins where neither does
parts_none : (first second : Option Unit) → option_or first second ≡ None → (first ≡ None) × (second ≡ None)
parts_none None second none = (refl, none)
parts_none (Some u) second none = cc

-- the pair of a slot
slot_is : (t : Timeline) (n : ℕ) (r : Option Pair) (u : Option Unit) → repeat_at t n ≡ r → t n ≡ u
    → slot t n ≡ unwrap_or (option_or r (option_map (λ (v : Unit). v.pair) u)) null_pair
slot_is t n r u due is = ap (λ x. unwrap_or (option_or x (option_map (λ (v : Unit). v.pair) (t n))) null_pair) due
    ∙ ap (λ x. unwrap_or (option_or r (option_map (λ (v : Unit). v.pair) x)) null_pair) is

-- what is due after a slot
due_next : (t : Timeline) (n : ℕ) (u : Option Unit) → t n ≡ u → repeat_at t (n + 1) ≡ repeat_of u
due_next t n u is = let e : n + 1 ≡ suc n = omega arith in rw e (ap repeat_of is)

-- nothing begins in a repeat that is due
none_in_repeat : (t : Timeline) → IsSpaced t → (n : ℕ) (p : Pair) → repeat_at t n ≡ Some p → t n ≡ None
none_in_repeat t spaced zero p due = cc
none_in_repeat t spaced (suc k) p due = spaced k p due

module _ (t : Timeline) (es : List Event) (us : List PlacedUnit) (n : ℕ) where
  -- at a slot with a repeat
  repeat_step : (p : Pair) → IsAhead t es us n (Some p) → (slot t n ≡ p) × IsAhead t es us (n + 1) None
  repeat_step p g =
      let none : t n ≡ None = none_in_repeat t g.spaced n p g.due in
      let parts = parts_none (event_at es n) (unit_at us n) (sym (g.same n (omega arith)) ∙ none) in (
        slot_is t n (Some p) None g.due none,
        record {
          same = λ m h. g.same m (omega arith);
          due = due_next t n None none;
          spaced = g.spaced;
          events_from = events_behind es n g.events_from g.events_apart parts.0;
          events_apart = g.events_apart;
          units_from = units_behind us n g.units_from g.units_rising parts.1;
          units_rising = g.units_rising;
          beside = g.beside;
        },
      )

  -- at a slot where an event begins
  event_step : (e : Event) → e.slot ≡ n → IsAhead t (e ∷ es) us n None → (slot t n ≡ e.pair) × IsAhead t es us (n + 1) (Some e.pair)
  event_step e here g =
      let begins : event_at (e ∷ es) n ≡ Some (record { pair = e.pair; doubled = true }) = at_first e es n here in
      let is : t n ≡ Some (record { pair = e.pair; doubled = true }) = g.same n (omega arith) ∙ ap (λ x. option_or x (unit_at us n)) begins in (
        slot_is t n None _ g.due is,
        record {
          same = λ m h. g.same m (omega arith) ∙ ap (λ x. option_or x (unit_at us m)) (passed_event e es m (omega arith));
          due = due_next t n _ is;
          spaced = g.spaced;
          events_from = from_earlier (n + 1) (e.slot + 2) es (omega arith) g.events_apart.0;
          events_apart = g.events_apart.1;
          units_from = units_behind us n g.units_from g.units_rising (g.beside n _ begins);
          units_rising = g.units_rising;
          beside = beside;
        },
      )
    where
      beside : (m : ℕ) (u : Unit) → event_at es m ≡ Some u → unit_at us m ≡ None
      beside m u some = at (eqb m e.slot) refl
        where
          at : (b : Bool) → eqb m e.slot ≡ b → unit_at us m ≡ None
          at true test = let same : e.slot ≡ m = grind (arith, nat_tests) in g.beside m _ (at_first e es m same)
          at false test = g.beside m u (let other : e.slot ≢ m = grind (arith, nat_tests) in passed_event e es m other ∙ some)

  -- at a slot where a unit begins, and nothing else
  unit_step : (u : PlacedUnit) → u.slot ≡ n → AreFrom (n + 1) es → IsAhead t es (u ∷ us) n None
      → (slot t n ≡ u.unit.pair) × IsAhead t es us (n + 1) (repeat_of (Some u.unit))
  unit_step u here behind g =
      let none : event_at es n ≡ None = event_none (n + 1) n es behind (omega arith) in
      let is : t n ≡ Some u.unit = g.same n (omega arith) ∙ ap (λ x. option_or x (unit_at (u ∷ us) n)) none ∙ at_first_unit u us n here in (
        slot_is t n None _ g.due is,
        record {
          same = λ m h. g.same m (omega arith) ∙ ap (λ x. option_or (event_at es m) x) (passed_unit u us m (omega arith));
          due = due_next t n _ is;
          spaced = g.spaced;
          events_from = behind;
          events_apart = g.events_apart;
          units_from = units_earlier (n + 1) (u.slot + 1) us (omega arith) g.units_rising.0;
          units_rising = g.units_rising.1;
          beside = beside;
        },
      )
    where
      beside : (m : ℕ) (v : Unit) → event_at es m ≡ Some v → unit_at us m ≡ None
      beside m v some = at (eqb m u.slot) refl
        where
          at : (b : Bool) → eqb m u.slot ≡ b → unit_at us m ≡ None
          at true test =
              let same : u.slot ≡ m = grind (arith, nat_tests) in
              absurd (some_none u.unit (sym (at_first_unit u us m same) ∙ g.beside m v some))
          at false test =
              let other : u.slot ≢ m = grind (arith, nat_tests) in
              sym (passed_unit u us m other) ∙ g.beside m v some

  -- at a slot where nothing is due and nothing begins
  null_step : AreFrom (n + 1) es → AreUnitsFrom (n + 1) us → IsAhead t es us n None → (slot t n ≡ null_pair) × IsAhead t es us (n + 1) None
  null_step behind later g =
      let event : event_at es n ≡ None = event_none (n + 1) n es behind (omega arith) in
      let unit : unit_at us n ≡ None = unit_none (n + 1) n us later (omega arith) in
      let none : t n ≡ None = g.same n (omega arith) ∙ ap (λ x. option_or x (unit_at us n)) event ∙ unit in (
        slot_is t n None None g.due none,
        record {
          same = λ m h. g.same m (omega arith);
          due = due_next t n None none;
          spaced = g.spaced;
          events_from = behind;
          events_apart = g.events_apart;
          units_from = later;
          units_rising = g.units_rising;
          beside = g.beside;
        },
      )

-- at the end of a step
abbrev pub after : Cursor → Cursor
after mid = record { slot = mid.slot + 1; next_unit = mid.next_unit; next_event = mid.next_event; repeat = mid.repeat }

module _ (t : Timeline) (events : List Event) (units : List PlacedUnit) (old mid : Cursor) (pair : Pair) (ready : IsReadyForPairs t events units old) where
  -- what a step gives where the cursor was moved so
  moved : (m : Cursor) → mid ≡ m → (pair ≡ slot t old.slot) × IsAhead t (drop m.next_event events) (drop m.next_unit units) (m.slot + 1) m.repeat → m.slot ≡ old.slot
      → GivesSlot t events units old (after mid) pair
  moved m is w at = subst (λ c. GivesSlot t events units old (after c) pair) (sym is) (record { pair_is = w.0; ready = w.1 })

  -- a repeat
  pub repeat_gives : (p : Pair) → old.repeat ≡ Some p → mid ≡ record { slot = old.slot; next_unit = old.next_unit; next_event = old.next_event; repeat = None } → pair ≡ p
      → GivesSlot t events units old (after mid) pair
  repeat_gives p due is gives =
      let step = repeat_step t (drop old.next_event events) (drop old.next_unit units) old.slot p
      (subst (λ r. IsAhead t (drop old.next_event events) (drop old.next_unit units) old.slot r) due ready) in
      moved (record { slot = old.slot; next_unit = old.next_unit; next_event = old.next_event; repeat = None }) is (gives ∙ sym step.0, step.1) refl

  -- an event
  pub event_gives : (e : Event) → old.repeat ≡ None → IsNext events old.next_event e → e.slot ≡ old.slot
      → mid ≡ record { slot = old.slot; next_unit = old.next_unit; next_event = old.next_event + 1; repeat = Some e.pair } → pair ≡ e.pair
      → GivesSlot t events units old (after mid) pair
  event_gives e due next here is gives =
      let step = event_step t (drop (old.next_event + 1) events) (drop old.next_unit units) old.slot e here
      (subst (λ l. IsAhead t l (drop old.next_unit units) old.slot None) next.splits
      (subst (λ r. IsAhead t (drop old.next_event events) (drop old.next_unit units) old.slot r) due ready)) in
      moved (record { slot = old.slot; next_unit = old.next_unit; next_event = old.next_event + 1; repeat = Some e.pair }) is (gives ∙ sym step.0, step.1) refl

  -- the events to come are after the slot where the next one isn't there
  no_event : ((e : Event) → IsNext events old.next_event e → e.slot ≡ old.slot → ⊥) → AreFrom (old.slot + 1) (drop old.next_event events)
  no_event none = from_first (old.slot + 1) (drop old.next_event events) ready.events_apart behind
    where
      behind : (e : Event) (rest : List Event) → drop old.next_event events ≡ e ∷ rest → old.slot + 1 ≤ e.slot
      behind e rest is =
          let from : old.slot ≤ e.slot = (subst (λ l. AreFrom old.slot l) is ready.events_from).0 in
          let other : e.slot ≢ old.slot = none e (next_from_drop events old.next_event e rest is) in
          omega (arith, from, other)

  -- and so the units
  no_unit : ((u : PlacedUnit) → IsNext units old.next_unit u → u.slot ≡ old.slot → ⊥) → AreUnitsFrom (old.slot + 1) (drop old.next_unit units)
  no_unit none = units_first (old.slot + 1) (drop old.next_unit units) ready.units_rising behind
    where
      behind : (u : PlacedUnit) (rest : List PlacedUnit) → drop old.next_unit units ≡ u ∷ rest → old.slot + 1 ≤ u.slot
      behind u rest is =
          let from : old.slot ≤ u.slot = (subst (λ l. AreUnitsFrom old.slot l) is ready.units_from).0 in
          let other : u.slot ≢ old.slot = none u (next_from_drop units old.next_unit u rest is) in
          omega (arith, from, other)

  -- a unit
  pub unit_gives : (u : PlacedUnit) → old.repeat ≡ None → ((e : Event) → IsNext events old.next_event e → e.slot ≡ old.slot → ⊥)
      → IsNext units old.next_unit u → u.slot ≡ old.slot
      → mid ≡ record { slot = old.slot; next_unit = old.next_unit + 1; next_event = old.next_event; repeat = repeat_of (Some u.unit) } → pair ≡ u.unit.pair
      → GivesSlot t events units old (after mid) pair
  unit_gives u due none next here is gives =
      let step = unit_step t (drop old.next_event events) (drop (old.next_unit + 1) units) old.slot u here (no_event none)
      (subst (λ l. IsAhead t (drop old.next_event events) l old.slot None) next.splits
      (subst (λ r. IsAhead t (drop old.next_event events) (drop old.next_unit units) old.slot r) due ready)) in
      moved (record { slot = old.slot; next_unit = old.next_unit + 1; next_event = old.next_event; repeat = repeat_of (Some u.unit) }) is (gives ∙ sym step.0, step.1) refl

  -- nothing
  pub null_gives : old.repeat ≡ None → ((e : Event) → IsNext events old.next_event e → e.slot ≡ old.slot → ⊥)
      → ((u : PlacedUnit) → IsNext units old.next_unit u → u.slot ≡ old.slot → ⊥) → mid ≡ old → pair ≡ null_pair
      → GivesSlot t events units old (after mid) pair
  null_gives due none no_chunk is gives =
      let step = null_step t (drop old.next_event events) (drop old.next_unit units) old.slot (no_event none) (no_unit no_chunk)
      (subst (λ r. IsAhead t (drop old.next_event events) (drop old.next_unit units) old.slot r) due ready) in
      moved old is (gives ∙ sym step.0, subst (λ r. IsAhead t (drop old.next_event events) (drop old.next_unit units) (old.slot + 1) r) (sym due) step.1) refl
