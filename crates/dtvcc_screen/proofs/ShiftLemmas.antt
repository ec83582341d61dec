-- The clock of a service doesn't matter: what counted more frames before does the same with the same events, and ends each delay
-- as many frames later on its own clock. So a service that was reset shows the same, whatever its clock had counted by then.
use Rattle.std.proofs.Common.{◌≡◌, ◌∙◌, ℕ, ◌+◌, ◌-◌, ◌≤◌, ◌==◌, inl, inr, Bool, true, false, if◌then◌else◌, List, [], ◌∷◌, ◌++◌, length, Option, Some, None, refl, sym, ap, arith}
use Rattle.std.specs.Prelude.{option_map}
use Rattle.std.proofs.lemmas.Bool.{cases_lt}
use Rattle.std.proofs.lemmas.Bool.Decides.{nat_tests}
use Rattle.cc_base.specs.Rate.{delay_frames_of}
use Rattle.cc_base.specs.declared.rate.Rate.{Rate}
use Rattle.dtvcc_codes.specs.declared.commands.Command.{Command}
use Rattle.dtvcc_codes.specs.Reading.{completed, open_after}
use Rattle.dtvcc_screen.specs.Commands.{on_screen}
use Rattle.dtvcc_screen.specs.Cores.{CoreState, acted_if, after_byte, after_tick, all_acted, arrived_in, clean, go_on, held_more, is_cancel, is_due, is_reset, released, tenths_of, until_of}
use Rattle.dtvcc_screen.specs.Meaning.{Byte, Event, Reset, Served, Tick, cleaned, on_event, served_after, ticked}
use Rattle.dtvcc_screen.specs.declared.clock.Clock.{Clock}

-- this many frames later
abbrev pub later_core : ℕ → CoreState → CoreState
later_core d core = record core { until = option_map (λ (n : ℕ). n + d) core.until }

abbrev pub later_clock : ℕ → Clock → Clock
later_clock d clock = record { ticks = clock.ticks + d; rate = clock.rate }

abbrev pub shift : ℕ → Served → Served
shift d s = record { clock = later_clock d s.clock; core = later_core d s.core }

until_shift : (d tenths : ℕ) (clock : Clock) (until : Option ℕ)
    → until_of tenths (later_clock d clock) (option_map (λ (n : ℕ). n + d) until) ≡ option_map (λ (n : ℕ). n + d) (until_of tenths clock until)
until_shift d tenths clock until = at (tenths == 0)
  where
    at : (b : Bool) → (if b then option_map (λ (n : ℕ). n + d) until else Some (clock.ticks + d + delay_frames_of clock.rate tenths))
        ≡ option_map (λ (n : ℕ). n + d) (if b then until else Some (clock.ticks + delay_frames_of clock.rate tenths))
    at true = refl
    at false = let same : clock.ticks + d + delay_frames_of clock.rate tenths ≡ clock.ticks + delay_frames_of clock.rate tenths + d = omega arith in ap (λ (n : ℕ). Some n) same

acted_shift : (d : ℕ) (c : Option Command) (clock : Clock) (core : CoreState) → acted_if c (later_clock d clock) (later_core d core) ≡ later_core d (acted_if c clock core)
acted_shift d None clock core = refl
acted_shift d (Some command) clock core =
    ap (λ (u : Option ℕ). record { screen = on_screen command core.screen; open_bytes = core.open_bytes; until = u; held = core.held })
    (until_shift d (tenths_of command) clock core.until)

go_on_shift : (d : ℕ) (o : Option ℕ) (rest : List (Option Command)) (core all shifted : CoreState) → shifted ≡ later_core d all
    → go_on (option_map (λ (n : ℕ). n + d) o) rest (later_core d core) shifted ≡ later_core d (go_on o rest core all)
go_on_shift d None rest core all shifted is = is
go_on_shift d (Some end) rest core all shifted is = refl

all_shift : (d : ℕ) (cs : List (Option Command)) (clock : Clock) (core : CoreState) → all_acted cs (later_clock d clock) (later_core d core) ≡ later_core d (all_acted cs clock core)
all_shift d [] clock core = refl
all_shift d (first ∷ rest) clock core =
    ap (λ (next : CoreState). go_on next.until rest next (all_acted rest (later_clock d clock) next)) (acted_shift d first clock core)
    ∙ go_on_shift d (acted_if first clock core).until rest (acted_if first clock core) (all_acted rest clock (acted_if first clock core))
    (all_acted rest (later_clock d clock) (later_core d (acted_if first clock core))) (all_shift d rest clock (acted_if first clock core))

released_shift : (d : ℕ) (clock : Clock) (core : CoreState) → released (later_clock d clock) (later_core d core) ≡ later_core d (released clock core)
released_shift d clock core = all_shift d core.held clock (record core { until = None; held = [] })

held_shift : (d : ℕ) (c : Option Command) (clock : Clock) (core : CoreState) → held_more c (later_clock d clock) (later_core d core) ≡ later_core d (held_more c clock core)
held_shift d c clock core = at (length (core.held ++ c ∷ []) == 128)
  where
    next : CoreState
    next = record core { held = core.held ++ c ∷ [] }

    at : (b : Bool) → (if b then released (later_clock d clock) (later_core d (record core { held = core.held ++ c ∷ [] })) else later_core d (record core { held = core.held ++ c ∷ [] }))
        ≡ later_core d (if b then released clock (record core { held = core.held ++ c ∷ [] }) else record core { held = core.held ++ c ∷ [] })
    at true = released_shift d clock (record core { held = core.held ++ c ∷ [] })
    at false = refl

arrived_shift : (d : ℕ) (o : Option ℕ) (c : Option Command) (clock : Clock) (core : CoreState)
    → arrived_in (option_map (λ (n : ℕ). n + d) o) c (later_clock d clock) (later_core d core) ≡ later_core d (arrived_in o c clock core)
arrived_shift d None c clock core = acted_shift d c clock core
arrived_shift d (Some end) c clock core = at (is_cancel c)
  where
    at : (b : Bool) → (if b then released (later_clock d clock) (later_core d core) else held_more c (later_clock d clock) (later_core d core))
        ≡ later_core d (if b then released clock core else held_more c clock core)
    at true = released_shift d clock core
    at false = held_shift d c clock core

byte_shift : (d byte : ℕ) (clock : Clock) (core : CoreState) → after_byte byte (later_clock d clock) (later_core d core) ≡ later_core d (after_byte byte clock core)
byte_shift d byte clock core = at (is_reset (completed core.open_bytes byte))
  where
    at : (b : Bool)
        → (if b then clean else arrived_in (option_map (λ (n : ℕ). n + d) core.until) (completed core.open_bytes byte) (later_clock d clock) (later_core d (record core { open_bytes = open_after core.open_bytes byte })))
        ≡ later_core d (if b then clean else arrived_in core.until (completed core.open_bytes byte) clock (record core { open_bytes = open_after core.open_bytes byte }))
    at true = refl
    at false = arrived_shift d core.until (completed core.open_bytes byte) clock (record core { open_bytes = open_after core.open_bytes byte })

due_shift : (d : ℕ) (o : Option ℕ) (now : ℕ) → is_due (option_map (λ (n : ℕ). n + d) o) (now + d) ≡ is_due o now
due_shift d None now = refl
due_shift d (Some end) now = at (end == now) refl
  where
    at : (b : Bool) → (end == now) ≡ b → (end + d == now + d) ≡ b
    at true test = grind (arith, nat_tests)
    at false test = grind (arith, nat_tests)

tick_shift : (d : ℕ) (clock : Clock) (core : CoreState) → after_tick (later_clock d clock) (later_core d core) ≡ later_core d (after_tick clock core)
tick_shift d clock core =
    ap (λ (b : Bool). if b then released (later_clock d clock) (later_core d core) else later_core d core) (due_shift d core.until clock.ticks)
    ∙ at (is_due core.until clock.ticks)
  where
    at : (b : Bool) → (if b then released (later_clock d clock) (later_core d core) else later_core d core) ≡ later_core d (if b then released clock core else core)
    at true = released_shift d clock core
    at false = refl

event_shift : (d : ℕ) (e : Event) (s : Served) → on_event e (shift d s) ≡ shift d (on_event e s)
event_shift d (Tick rate) s =
    let same : s.clock.ticks + d + 1 ≡ s.clock.ticks + 1 + d = omega arith in
    let clock : Clock = record { ticks = s.clock.ticks + d + 1; rate = rate } in
    ap (λ (n : ℕ). record { clock = record { ticks = n; rate = rate }; core = after_tick (record { ticks = n; rate = rate }) (later_core d s.core) }) same
    ∙ ap (λ (core : CoreState). record { clock = later_clock d (ticked rate s.clock); core = core }) (tick_shift d (ticked rate s.clock) s.core)
event_shift d (Byte byte) s = ap (λ (core : CoreState). record { clock = later_clock d s.clock; core = core }) (byte_shift d byte s.clock s.core)
event_shift d Reset s = refl

pub after_shift : (d : ℕ) (es : List Event) (s : Served) → served_after (shift d s) es ≡ shift d (served_after s es)
after_shift d [] s = refl
after_shift d (e ∷ es) s = ap (λ (t : Served). served_after t es) (event_shift d e s) ∙ after_shift d es (on_event e s)

-- from a tick on its screen doesn't know the clock
same_ticked : (a b : Clock) (rate : Rate) (es : List Event) → a.ticks ≤ b.ticks
    → (served_after (cleaned b) (Tick rate ∷ es)).core.screen ≡ (served_after (cleaned a) (Tick rate ∷ es)).core.screen
same_ticked a b rate es low =
    let d : ℕ = b.ticks - a.ticks in
    let same : b.ticks + 1 ≡ a.ticks + 1 + d = omega arith in
    ap (λ (n : ℕ). (served_after (cleaned (record { ticks = n; rate = rate })) es).core.screen) same
    ∙ ap (λ (s : Served). s.core.screen) (after_shift d es (cleaned (ticked rate a)))

pub same_clock : (a b : Clock) (rate : Rate) (es : List Event)
    → (served_after (cleaned b) (Tick rate ∷ es)).core.screen ≡ (served_after (cleaned a) (Tick rate ∷ es)).core.screen
same_clock a b rate es = elim (cases_lt a.ticks b.ticks) [
  | inl less ↦ same_ticked a b rate es (omega arith)
  | inr high ↦ sym (same_ticked b a rate es high)
]
