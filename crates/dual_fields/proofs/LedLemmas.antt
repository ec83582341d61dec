-- A lane in a field: each of its text pairs is led to by a control code of its own, and its slots are its own.
use Rattle.std.proofs.Common.{◌≡◌, ℕ, ◌+◌, ◌<◌, ◌≤◌, ◌==◌, ◌&&◌, ◌||◌, nat_le, nat_lt, Bool, true, false, List, [], ◌∷◌, Option, Some, None, refl, sym, ap, ◌∙◌, subst, arith, ⊎_elim}
use Rattle.std.specs.Prelude.{⊤, if◌then◌else◌}
use Rattle.std.specs.Option.{option_or}
use Rattle.std.proofs.lemmas.Bool.{cases_lt}
use Rattle.std.proofs.lemmas.Bool.Decides.{nat_tests}
use Rattle.line21_codes.specs.declared.codes.Code.{Code}
use Rattle.line21_codes.specs.declared.codes.Code.TheVariants.{Null, Text, Xds, Control}
use Rattle.line21_codes.specs.Reading.{code_of}
use Rattle.line21_author.specs.declared.unit.Unit.{Unit}
use Rattle.line21_screen.specs.declared.modes.Mode.{Mode}
use Rattle.lanes.specs.LaneTimeline.{stands}
use Rattle.lanes.specs.Timeline.{Timeline}
use Rattle.dual_fields.specs.Parts.{part_slots}
use Rattle.dual_fields.specs.ResumedLane.{ResumesAt, Stand}
use Rattle.dual_fields.specs.Slots.{Slots}
use Rattle.dual_fields.specs.Spans.{covers}
use Rattle.dual_fields.specs.declared.part.Part.{Part}
use Rattle.dual_fields.specs.Lanes.{AreCues, Begins, IsBehind, again, part_chunks}
use Rattle.dual_fields.specs.Resuming.{opens}
use Rattle.dual_fields.specs.Sharing.{IsLedTo, is_text}
use Rattle.dual_fields.proofs.LaneLemmas.{again_at, at_slot, free_none, in_front, same_behind, some_size, stands_at}

-- a code that begins a mode is no text
pub opener_plain : (code : Code) (mode : Mode) → opens code ≡ Some mode → is_text code ≡ false
opener_plain Null mode is = cc
opener_plain (Text first second) mode is = cc
opener_plain (Xds first second) mode is = cc
opener_plain (Control second control) mode is = refl

or_true : (a b : Bool) → a ≡ true → (a || b) ≡ true
or_true a b is = rw is refl

or_second : (a b : Bool) → b ≡ true → (a || b) ≡ true
or_second true b is = refl
or_second false b is = is

-- the slots of a later unit, and those between it and the one before, are in the span
pub covered_later : (end : ℕ) (part : Part) (parts : List Part) (f : ℕ) (fs : List ℕ) (m : ℕ) → part.later ≡ true → end ≤ m → m < f + part_slots part
    → covers end (part ∷ parts) (f ∷ fs) m ≡ true
covered_later end part parts f fs m later high low =
    or_true _ (covers (f + part_slots part) parts fs m)
    (rw later (let one : nat_le end m ≡ true = grind (arith, nat_tests) in let two : nat_lt m (f + part_slots part) ≡ true = grind (arith, nat_tests) in rw (one, two) refl))

pub covered_own : (end : ℕ) (part : Part) (parts : List Part) (f : ℕ) (fs : List ℕ) (m : ℕ) → end ≤ f → f ≤ m → m < f + part_slots part
    → covers end (part ∷ parts) (f ∷ fs) m ≡ true
covered_own end part parts f fs m behind high low =
    or_true _ (covers (f + part_slots part) parts fs m) (by_later part.later)
  where
    by_later : (b : Bool) → (nat_le (if b then end else f) m && nat_lt m (f + part_slots part)) ≡ true
    by_later true = let one : nat_le end m ≡ true = grind (arith, nat_tests) in let two : nat_lt m (f + part_slots part) ≡ true = grind (arith, nat_tests) in rw (one, two) refl
    by_later false = let one : nat_le f m ≡ true = grind (arith, nat_tests) in let two : nat_lt m (f + part_slots part) ≡ true = grind (arith, nat_tests) in rw (one, two) refl

pub covered_rest : (end : ℕ) (part : Part) (parts : List Part) (f : ℕ) (fs : List ℕ) (m : ℕ) → covers (f + part_slots part) parts fs m ≡ true
    → covers end (part ∷ parts) (f ∷ fs) m ≡ true
covered_rest end part parts f fs m is = or_second _ (covers (f + part_slots part) parts fs m) is

-- up to a slot the lane is led by a control code of its own, after which the other lane has nothing
pub record IsLedUp (own other : Timeline) (end : ℕ) : Type 0 where
  at : ℕ
  before : at < end
  unit : Unit
  begins : own at ≡ Some unit
  control : is_text (code_of unit.pair) ≡ false
  alone : (m : ℕ) → at < m → m < end → other m ≡ None

abbrev pub LedUp : Timeline → Timeline → ℕ → Option Part → Type 0
LedUp own other end None = ⊤
LedUp own other end (Some former) = IsLedUp own other end

module _ (slots : Slots) (events t own other : Timeline)
    (held : (n : ℕ) (unit : Unit) → events n ≡ Some unit → (slots.free n ≡ false) × (slots.free (n + 1) ≡ false))
    (sound : (n : ℕ) → slots.foreign n ≡ true → slots.free n ≡ false) where
  -- a free slot is no foreign one
  not_foreign : (n : ℕ) → slots.free n ≡ true → slots.foreign n ≡ false
  not_foreign n free = by_foreign (slots.foreign n) refl
    where
      by_foreign : (b : Bool) → slots.foreign n ≡ b → slots.foreign n ≡ false
      by_foreign true is = let none : slots.free n ≡ false = sound n is in absurd (cc)
      by_foreign false is = is

  module _ (end : ℕ) (part : Part) (parts : List Part) (f : ℕ) (fs : List ℕ) (r : Option ℕ) (rs : List (Option ℕ))
      (stand : Stand slots end (part ∷ parts) (f ∷ fs) (r ∷ rs))
      (same : (n : ℕ) → end ≤ n → t n ≡ option_or (events n) (stands (part_chunks (part ∷ parts)) (f ∷ fs) n))
      (mine : (n : ℕ) → end ≤ n → own n ≡ option_or (t n) (again (part ∷ parts) (r ∷ rs) n))
      (clear : (m : ℕ) → covers end (part ∷ parts) (f ∷ fs) m ≡ true → slots.foreign m ≡ false → other m ≡ None) where
    -- in its own slots the other lane has nothing
    none_in : (m : ℕ) → f ≤ m → m < f + part_slots part → other m ≡ None
    none_in m high low =
        clear m (covered_own end part parts f fs m stand.0.behind high low) (not_foreign m (stand.0.free m high low))

    own_at : own f ≡ Some part.chunk.unit
    own_at = mine f stand.0.behind ∙ ap (λ u. option_or u (again (part ∷ parts) (r ∷ rs) f)) (at_slot slots events t held end part parts f fs r rs stand same)

    mine_behind : (n : ℕ) → f + part_slots part ≤ n → own n ≡ option_or (t n) (again parts rs n)
    mine_behind n high = by_resume r refl
      where
        by_resume : (q : Option ℕ) → r ≡ q → own n ≡ option_or (t n) (again parts rs n)
        by_resume None is = mine n (omega (arith, stand.0.behind)) ∙ ap (λ (q : Option ℕ). option_or (t n) (again (part ∷ parts) (q ∷ rs) n)) is
        by_resume (Some at) is =
            let resumes : ResumesAt slots end part f (Some at) = subst (ResumesAt slots end part f) is stand.1 in
            let test : (n == at) ≡ false = let b = resumes.1.at_is.before in grind (arith, nat_tests) in
            mine n (omega (arith, stand.0.behind)) ∙ ap (λ (q : Option ℕ). option_or (t n) (again (part ∷ parts) (q ∷ rs) n)) is
            ∙ ap (option_or (t n)) (again_at part parts at rs n false test)

    clear_behind : (m : ℕ) → covers (f + part_slots part) parts fs m ≡ true → slots.foreign m ≡ false → other m ≡ None
    clear_behind m is = clear m (covered_rest end part parts f fs m is)

    -- a cue's first unit leads on
    led_begun : Begins part → IsLedUp own other (f + part_slots part)
    led_begun begins = record {
      at = f;
      before = omega (arith, some_size part);
      unit = part.chunk.unit;
      begins = own_at;
      control = opener_plain (code_of part.chunk.unit.pair) begins.mode (ap (λ (u : Unit). opens (code_of u.pair)) (sym begins.first) ∙ begins.opens_it);
      alone = λ m high low. none_in m (omega arith) low;
    }

    module _ (later : part.later ≡ true) (opener : (mode : Mode) × (opens (code_of part.first.pair) ≡ Some mode)) (led : IsLedUp own other end) where
      -- a later unit is led to
      led_up : IsLedUp own other f
      led_up = by_resume r refl
        where
          by_resume : (q : Option ℕ) → r ≡ q → IsLedUp own other f
          by_resume None is =
              let resumes : ResumesAt slots end part f None = subst (ResumesAt slots end part f) is stand.1 in
              record {
                at = led.at;
                before = omega (arith, led.before, stand.0.behind);
                unit = led.unit;
                begins = led.begins;
                control = led.control;
                alone = λ m high low.
                    ⊎_elim
                    (λ (below : m < end). led.alone m high below)
                    (λ (above : end ≤ m). clear m (covered_later end part parts f fs m later above (omega arith)) (resumes later m above low))
                    (cases_lt m end);
              }
          by_resume (Some at) is =
              let resumes : ResumesAt slots end part f (Some at) = subst (ResumesAt slots end part f) is stand.1 in
              let resume = resumes.1 in
              let low : at < f = omega (arith, resume.at_is.before) in
              let high : end ≤ at = omega (arith, resume.last_is.behind, resume.at_is.behind) in
              let nothing : t at ≡ None = in_front slots events t held end part parts f fs r rs stand same at high low ∙ free_none slots events held at resume.at_is.first in
              let test : (at == at) ≡ true = grind (arith, nat_tests) in
              let here : own at ≡ Some part.first =
              mine at high ∙ ap (λ u. option_or u (again (part ∷ parts) (r ∷ rs) at)) nothing
              ∙ ap (λ (q : Option ℕ). again (part ∷ parts) (q ∷ rs) at) is ∙ again_at part parts at rs at true test in
              record {
                at = at;
                before = low;
                unit = part.first;
                begins = here;
                control = opener_plain (code_of part.first.pair) opener.0 opener.1;
                alone = λ m above below.
                    clear m (covered_later end part parts f fs m later (omega arith) (omega arith)) (resume.last_is.none_later m (omega (arith, resume.at_is.behind)) below);
              }

      led_behind : IsLedUp own other (f + part_slots part)
      led_behind = record {
        at = led_up.at;
        before = omega (arith, led_up.before);
        unit = led_up.unit;
        begins = led_up.begins;
        control = led_up.control;
        alone = λ m high low.
            ⊎_elim
            (λ (below : m < f). led_up.alone m high below)
            (λ (above : f ≤ m). none_in m above low)
            (cases_lt m f);
      }

  -- the state after a unit: what leads, and that the cue's first unit begins its mode
  pub record IsBehindUnit (end : ℕ) (part : Part) : Type 0 where
    led : IsLedUp own other end
    mode : Mode
    opens_it : opens (code_of part.first.pair) ≡ Some mode

  abbrev pub BehindUnit : ℕ → Option Part → Type 0
  BehindUnit end None = ⊤
  BehindUnit end (Some former) = IsBehindUnit end former

  module _ (end : ℕ) (part : Part) (parts : List Part) (f : ℕ) (fs : List ℕ) (r : Option ℕ) (rs : List (Option ℕ))
      (stand : Stand slots end (part ∷ parts) (f ∷ fs) (r ∷ rs))
      (same : (n : ℕ) → end ≤ n → t n ≡ option_or (events n) (stands (part_chunks (part ∷ parts)) (f ∷ fs) n))
      (mine : (n : ℕ) → end ≤ n → own n ≡ option_or (t n) (again (part ∷ parts) (r ∷ rs) n))
      (clear : (m : ℕ) → covers end (part ∷ parts) (f ∷ fs) m ≡ true → slots.foreign m ≡ false → other m ≡ None) where
    behind_next : (former : Option Part) (later : Bool) → part.later ≡ later → IsBehind later former part → BehindUnit end former → IsBehindUnit (f + part_slots part) part
    behind_next former false is begins behind = record {
      led = led_begun end part parts f fs r rs stand same mine clear begins;
      mode = begins.mode;
      opens_it = begins.opens_it;
    }
    behind_next None true is continues behind = absurd continues
    behind_next (Some former) true is continues behind =
        let opens_it : opens (code_of part.first.pair) ≡ Some behind.mode = ap (λ (u : Unit). opens (code_of u.pair)) continues.first ∙ behind.opens_it in
        record {
          led = led_behind end part parts f fs r rs stand same mine clear is (behind.mode, opens_it) behind.led;
          mode = behind.mode;
          opens_it = opens_it;
        }

    led_here : (former : Option Part) (later : Bool) → part.later ≡ later → IsBehind later former part → BehindUnit end former
        → is_text (code_of part.chunk.unit.pair) ≡ true → IsLedTo own other f
    led_here former false is begins behind text =
        let plain' : is_text (code_of part.chunk.unit.pair) ≡ false =
        opener_plain (code_of part.chunk.unit.pair) begins.mode (ap (λ (u : Unit). opens (code_of u.pair)) (sym begins.first) ∙ begins.opens_it) in absurd (cc)
    led_here None true is continues behind text = absurd continues
    led_here (Some former) true is continues behind text =
        let opens_it : opens (code_of part.first.pair) ≡ Some behind.mode = ap (λ (u : Unit). opens (code_of u.pair)) continues.first ∙ behind.opens_it in
        let led = led_up end part parts f fs r rs stand same mine clear is (behind.mode, opens_it) behind.led in
        record { at = led.at; before = led.before; unit = led.unit; begins = led.begins; control = led.control; alone = led.alone }

  -- each text unit is led to
  pub led_all : (end : ℕ) (former : Option Part) (parts : List Part) (fs : List ℕ) (rs : List (Option ℕ)) → Stand slots end parts fs rs
      → ((n : ℕ) → end ≤ n → t n ≡ option_or (events n) (stands (part_chunks parts) fs n)) → ((n : ℕ) → end ≤ n → own n ≡ option_or (t n) (again parts rs n))
      → ((m : ℕ) → covers end parts fs m ≡ true → slots.foreign m ≡ false → other m ≡ None) → AreCues former parts → BehindUnit end former
      → (n : ℕ) (unit : Unit) → stands (part_chunks parts) fs n ≡ Some unit → is_text (code_of unit.pair) ≡ true → IsLedTo own other n
  led_all end former [] fs rs stand same mine clear cues behind n unit is text = cc
  led_all end former (part ∷ parts) [] rs stand same mine clear cues behind n unit is text = cc
  led_all end former (part ∷ parts) (f ∷ fs) [] stand same mine clear cues behind n unit is text = absurd stand
  led_all end former (part ∷ parts) (f ∷ fs) (r ∷ rs) stand same mine clear cues behind n unit is text =
      by_slot (n == f) refl
      (λ rest. led_all (f + part_slots part) (Some part) parts fs rs stand.2 (same_behind slots events t held end part parts f fs r rs stand same)
      (mine_behind end part parts f fs r rs stand same mine clear) (clear_behind end part parts f fs r rs stand same mine clear) cues.1
      (behind_next end part parts f fs r rs stand same mine clear former part.later refl cues.0 behind) n unit rest text)
    where
      by_slot : (b : Bool) → (n == f) ≡ b → (stands (part_chunks parts) fs n ≡ Some unit → IsLedTo own other n) → IsLedTo own other n
      by_slot true test rest =
          let here : f ≡ n = grind (arith, nat_tests) in
          let it : Some part.chunk.unit ≡ Some unit = sym (stands_at part parts f fs n true test) ∙ is in
          let it' : part.chunk.unit ≡ unit = cc in
          subst (IsLedTo own other) here
          (led_here end part parts f fs r rs stand same mine clear former part.later refl cues.0 behind (ap (λ (u : Unit). is_text (code_of u.pair)) it' ∙ text))
      by_slot false test rest = rest (sym (stands_at part parts f fs n false test) ∙ is)
