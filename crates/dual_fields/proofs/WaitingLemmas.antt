-- What a cursor knows of whether a cue's first unit has to come again.
use Rattle.std.proofs.Common.{◌≡◌, ℕ, ◌+◌, ◌<◌, ◌≤◌, Bool, true, false, ◌&&◌, ◌||◌, not, ◌==◌, nat_le, None, refl, sym, ap, ◌∙◌, arith, ⊎_elim}
use Rattle.std.specs.Prelude.{if◌then◌else◌}
use Rattle.std.proofs.lemmas.Bool.{cases_lt}
use Rattle.std.proofs.lemmas.Bool.Decides.{nat_tests}
use Rattle.dual_fields.specs.Parts.{part_slots}
use Rattle.dual_fields.specs.ResumedLane.{HasTwo, IsAllowedBeside, IsLastForeign, ResumesAt}
use Rattle.dual_fields.specs.Slots.{Slots}
use Rattle.dual_fields.specs.Waiting.{Describes, NoForeign, begun, is_ready, may_begin, next_resume, resume_at}
use Rattle.dual_fields.specs.declared.place.Resume.{Resume}
use Rattle.dual_fields.specs.declared.place.Resume.TheVariants.{NotNeeded, Needed, At}
use Rattle.dual_fields.specs.declared.part.Part.{Part}

module _ (slots : Slots) (end slot : ℕ) (from : end ≤ slot) where
  -- after a foreign slot
  now_foreign : slots.foreign slot ≡ true → Describes slots end (slot + 1) Needed
  now_foreign is = (
    slot,
    record {
      last_is = record {
        behind = from;
        before = omega arith;
        foreign = is;
        none_later = λ m high low. absurd (omega arith);
      };
      none = λ other high low free. absurd (omega arith);
    },
  )

  -- after one that isn't
  module _ (plain : slots.foreign slot ≡ false) where
    none_still : (last m : ℕ) → ((k : ℕ) → last < k → k < slot → slots.foreign k ≡ false) → last < m → m < slot + 1 → slots.foreign m ≡ false
    none_still last m none high low =
        ⊎_elim
        (λ (below : m < slot). none m high below)
        (λ (at : slot ≤ m). let same : m ≡ slot = omega arith in ap slots.foreign same ∙ plain)
        (cases_lt m slot)

    last_still : (last : ℕ) → IsLastForeign slots end slot last → IsLastForeign slots end (slot + 1) last
    last_still last is = record {
      behind = is.behind;
      before = omega (arith, is.before);
      foreign = is.foreign;
      none_later = λ m high low. none_still last m is.none_later high low;
    }

    free_still : NoForeign slots end slot → NoForeign slots end (slot + 1)
    free_still none m high low =
        ⊎_elim
        (λ (below : m < slot). none m high below)
        (λ (at : slot ≤ m). let same : m ≡ slot = omega arith in ap slots.foreign same ∙ plain)
        (cases_lt m slot)

    second_taken : (a b : Bool) → (a && b) ≡ false → a ≡ true → b ≡ false
    second_taken true b none free = none
    second_taken false b none free = cc

    both_parts : (a b : Bool) → (a && b) ≡ true → (a ≡ true) × (b ≡ true)
    both_parts true true both = (refl, refl)
    both_parts true false both = cc
    both_parts false b both = cc

    now_begun : (resume : Resume) (two : Bool) → (slots.free slot && slots.free (slot + 1)) ≡ two → Describes slots end slot resume
        → Describes slots end (slot + 1) (begun resume slot two)
    now_begun NotNeeded two is d = free_still d
    now_begun Needed true is d =
        let both = both_parts (slots.free slot) (slots.free (slot + 1)) is in (
          d.0,
          record {
            last_is = last_still d.0 d.1.last_is;
            at_is = record {
              behind = d.1.last_is.before;
              before = omega arith;
              first = both.0;
              second = both.1;
              earliest = d.1.none;
            };
          },
        )
    now_begun Needed false is d = (
      d.0,
      record {
        last_is = last_still d.0 d.1.last_is;
        none = λ other high low free.
            ⊎_elim
            (λ (below : other < slot). d.1.none other high below free)
            (λ (at : slot ≤ other).
            let same : other ≡ slot = omega arith in
            ap (λ n. slots.free (n + 1)) same ∙ second_taken (slots.free slot) (slots.free (slot + 1)) is (sym (ap slots.free same) ∙ free))
            (cases_lt other slot);
      },
    )
    now_begun (At at) two is d = (
      d.0,
      record {
        last_is = last_still d.0 d.1.last_is;
        at_is = record {
          behind = d.1.at_is.behind;
          before = omega (arith, d.1.at_is.before);
          first = d.1.at_is.first;
          second = d.1.at_is.second;
          earliest = d.1.at_is.earliest;
        };
      },
    )

  pub described_next : (resume : Resume) (foreign two : Bool) → slots.foreign slot ≡ foreign → (slots.free slot && slots.free (slot + 1)) ≡ two
      → Describes slots end slot resume → Describes slots end (slot + 1) (next_resume resume slot foreign two)
  described_next resume true two is both d = now_foreign is
  described_next resume false two is both d = now_begun is resume two both d

  -- where the cursor is ready a unit may begin
  ready_at : (at : ℕ) → is_ready (At at) slot ≡ true → at + 2 ≤ slot
  ready_at at is = grind (arith, nat_tests)

  pub ready_two : (resume : Resume) → Describes slots end slot resume → is_ready resume slot ≡ true → (m : ℕ) → end ≤ m → m < slot
      → slots.foreign m ≡ true → HasTwo slots m slot
  ready_two NotNeeded d ready m high low is = let none : slots.foreign m ≡ false = d m high low in absurd (cc)
  ready_two Needed d ready m high low is = cc
  ready_two (At at) d ready m high low is =
      ⊎_elim
      (λ (later : d.0 < m). let none : slots.foreign m ≡ false = d.1.last_is.none_later m later low in absurd (cc))
      (λ (sooner : m ≤ d.0). record {
        at = at;
        behind = omega (arith, d.1.at_is.behind);
        before = ready_at at ready;
        first = d.1.at_is.first;
        second = d.1.at_is.second;
      })
      (cases_lt d.0 m)

  -- and where one may it is
  pub two_ready : (resume : Resume) → Describes slots end slot resume
      → ((m : ℕ) → end ≤ m → m < slot → slots.foreign m ≡ true → HasTwo slots m slot) → is_ready resume slot ≡ true
  two_ready NotNeeded d allowed = refl
  two_ready Needed d allowed =
      let two = allowed d.0 d.1.last_is.behind d.1.last_is.before d.1.last_is.foreign in
      let none : slots.free (two.at + 1) ≡ false = d.1.none two.at two.behind (omega (arith, two.before)) two.first in
      let some : slots.free (two.at + 1) ≡ true = two.second in absurd (cc)
  two_ready (At at) d allowed =
      let two = allowed d.0 d.1.last_is.behind d.1.last_is.before d.1.last_is.foreign in
      let low : at + 2 ≤ slot =
      ⊎_elim
      (λ (sooner : two.at < at).
      let none : slots.free (two.at + 1) ≡ false = d.1.at_is.earliest two.at two.behind sooner two.first in
      let some : slots.free (two.at + 1) ≡ true = two.second in absurd (cc))
      (λ (later : at ≤ two.at). omega (arith, two.before))
      (cases_lt two.at at) in
      grind (arith, nat_tests)

  -- where the first unit comes again
  pub resumes : (resume : Resume) (part : Part) (later : Bool) → part.later ≡ later → Describes slots end slot resume
      → (later ≡ true → is_ready resume slot ≡ true) → ResumesAt slots end part slot (if later then resume_at resume else None)
  resumes resume part false is d ready = λ later m high low. cc
  resumes NotNeeded part true is d ready = λ later m high low. d m high low
  resumes Needed part true is d ready = let r : is_ready Needed slot ≡ true = ready refl in absurd (cc)
  resumes (At at) part true is d ready = (
    is,
    record {
      last = d.0;
      last_is = d.1.last_is;
      at_is = record {
        behind = d.1.at_is.behind;
        before = ready_at at (ready refl);
        first = d.1.at_is.first;
        second = d.1.at_is.second;
        earliest = d.1.at_is.earliest;
      };
    },
  )

-- nothing is foreign before anything
pub described_first : (slots : Slots) (end : ℕ) → Describes slots end end NotNeeded
described_first slots end m high low = absurd (omega arith)

-- the slots of a unit are free
pub size_free : (slots : Slots) (slot : ℕ) (doubled : Bool) → (slots.free slot && ((if doubled then 2 else 1) == 1 || slots.free (slot + 1))) ≡ true
    → (n : ℕ) → slot ≤ n → n < slot + (if doubled then 2 else 1) → slots.free n ≡ true
size_free slots slot true is n high low =
    let both = two_parts (slots.free slot) (slots.free (slot + 1)) is in
    ⊎_elim
    (λ (below : n < slot + 1). let same : n ≡ slot = omega arith in ap slots.free same ∙ both.0)
    (λ (above : slot + 1 ≤ n). let same : n ≡ slot + 1 = omega arith in ap slots.free same ∙ both.1)
    (cases_lt n (slot + 1))
  where
    two_parts : (a b : Bool) → (a && b) ≡ true → (a ≡ true) × (b ≡ true)
    two_parts true true both = (refl, refl)
    two_parts true false both = cc
    two_parts false b both = cc
size_free slots slot false is n high low =
    let same : n ≡ slot = omega arith in ap slots.free same ∙ one_part (slots.free slot) is
  where
    one_part : (a : Bool) → (a && true) ≡ true → a ≡ true
    one_part true both = refl
    one_part false both = cc

-- and where they are so is the test
pub free_size : (slots : Slots) (slot : ℕ) (doubled : Bool) → ((n : ℕ) → slot ≤ n → n < slot + (if doubled then 2 else 1) → slots.free n ≡ true)
    → (slots.free slot && ((if doubled then 2 else 1) == 1 || slots.free (slot + 1))) ≡ true
free_size slots slot true free = rw (free slot (omega arith) (omega arith), free (slot + 1) (omega arith) (omega arith)) refl
free_size slots slot false free = rw (free slot (omega arith) (omega arith)) refl

-- the four tests
and_parts : (a b : Bool) → (a && b) ≡ true → (a ≡ true) × (b ≡ true)
and_parts true true both = (refl, refl)
and_parts true false both = cc
and_parts false b both = cc

or_later : (later ready : Bool) → (not later || ready) ≡ true → later ≡ true → ready ≡ true
or_later true ready both is = both
or_later false ready both is = cc

later_or : (later ready : Bool) → (later ≡ true → ready ≡ true) → (not later || ready) ≡ true
later_or true ready is = is refl
later_or false ready is = refl

is_le : (a b : ℕ) → nat_le a b ≡ true → a ≤ b
is_le a b test = grind (arith, nat_tests)

le_is : (a b : ℕ) → a ≤ b → nat_le a b ≡ true
le_is a b low = grind (arith, nat_tests)

module _ (slots : Slots) (end slot : ℕ) (from : end ≤ slot) (resume : Resume) (part : Part) (describes : Describes slots end slot resume) where
  pub begins_allowed : may_begin slots resume slot part ≡ true → IsAllowedBeside slots end part slot
  begins_allowed is =
      let one = and_parts (nat_le part.chunk.load slot) _ is in
      let two = and_parts (nat_le (slot + part_slots part) part.chunk.until) _ one.1 in
      let three = and_parts (slots.free slot && (part_slots part == 1 || slots.free (slot + 1))) _ two.1 in
      record {
        behind = from;
        loaded = is_le part.chunk.load slot one.0;
        ended = is_le (slot + part_slots part) part.chunk.until two.0;
        free = size_free slots slot part.chunk.unit.doubled three.0;
        resumed = λ later. ready_two slots end slot from resume describes (or_later part.later (is_ready resume slot) three.1 later);
      }

  pub allowed_begins : IsAllowedBeside slots end part slot → may_begin slots resume slot part ≡ true
  allowed_begins a =
      rw (le_is part.chunk.load slot a.loaded, le_is (slot + part_slots part) part.chunk.until a.ended, free_size slots slot part.chunk.unit.doubled a.free)
      (later_or part.later (is_ready resume slot) (λ later. two_ready slots end slot from resume describes (a.resumed later)))

  -- where it doesn't, the unit isn't allowed at the slot
  pub refused : may_begin slots resume slot part ≡ false → IsAllowedBeside slots end part slot → ⊥
  refused is a = let yes' : may_begin slots resume slot part ≡ true = allowed_begins a in absurd (cc)

  pub placed_resumes : may_begin slots resume slot part ≡ true → ResumesAt slots end part slot (if part.later then resume_at resume else None)
  placed_resumes is =
      resumes slots end slot from resume part part.later refl describes
      (λ later. two_ready slots end slot from resume describes ((begins_allowed is).resumed later))

-- a unit takes a slot
pub some_slot : (part : Part) → 1 ≤ part_slots part
some_slot part = by_doubled part.chunk.unit.doubled
  where
    by_doubled : (b : Bool) → 1 ≤ (if b then 2 else 1)
    by_doubled true = omega arith
    by_doubled false = omega arith
