-- A service that is sent no delay: when a byte comes doesn't matter.
use Rattle.std.proofs.Common.{◌≡◌, ℕ, Bool, true, false, List, [], ◌∷◌, ◌++◌, Option, Some, None, refl, sym, ap, ◌∙◌}
use Rattle.std.specs.Prelude.{if◌then◌else◌}
use Rattle.cc_base.specs.declared.rate.Rate.{Rate}
use Rattle.dtvcc_codes.specs.declared.commands.Command.{Command}
use Rattle.dtvcc_codes.specs.Reading.{completed, open_after}
use Rattle.dtvcc_screen.specs.declared.clock.Clock.{Clock}
use Rattle.dtvcc_screen.specs.Commands.{on_screen}
use Rattle.dtvcc_screen.specs.Cores.{CoreState, acted_if, after_byte, arrived, arrived_in, clean, is_reset, tenths_of, until_of}
use Rattle.dtvcc_screen.specs.Meaning.{Byte, Event, Reset, Served, Tick, on_event, served_after, start}
use Rattle.rate_convert.specs.UndelayedServices.{AreParts, AreUndelayed, AreUntimed, HalvesAreOne, Parted, half_frames, tenths_in, whole_frames}

-- two services with one core, outside of a delay
record AreOne (s t : Served) : Type 0 where
  core : t.core ≡ s.core
  plain : s.core.until ≡ None

-- a command that is no delay acts alike at any time
no_delay : (tenths : ℕ) (clock : Clock) (until : Option ℕ) → tenths ≡ 0 → until_of tenths clock until ≡ until
no_delay tenths clock until none = rw none refl

acted_plain : (completion : Option Command) (c d : Clock) (core : CoreState) → tenths_in completion ≡ 0 → core.until ≡ None
    → (acted_if completion d core ≡ acted_if completion c core) × ((acted_if completion c core).until ≡ None)
acted_plain None c d core none plain = (refl, plain)
acted_plain (Some command) c d core none plain = (
  ap (λ u. record core { screen = on_screen command core.screen; until = u }) (no_delay (tenths_of command) d core.until none ∙ sym (no_delay (tenths_of command) c core.until none)),
  no_delay (tenths_of command) c core.until none ∙ plain,
)

arrived_plain : (completion : Option Command) (c d : Clock) (core : CoreState) → tenths_in completion ≡ 0 → core.until ≡ None
    → (arrived completion d core ≡ arrived completion c core) × ((arrived completion c core).until ≡ None)
arrived_plain completion c d core none plain = by_reset (is_reset completion) (by_until core.until plain)
  where
    by_until : (u : Option ℕ) → u ≡ None → (arrived_in u completion d core ≡ arrived_in u completion c core) × ((arrived_in u completion c core).until ≡ None)
    by_until None is = acted_plain completion c d core none plain
    by_until (Some e) is = cc

    by_reset : (b : Bool) → (arrived_in core.until completion d core ≡ arrived_in core.until completion c core) × ((arrived_in core.until completion c core).until ≡ None)
        → ((if b then clean else arrived_in core.until completion d core) ≡ (if b then clean else arrived_in core.until completion c core))
        × ((if b then clean else arrived_in core.until completion c core).until ≡ None)
    by_reset true rest = (refl, refl)
    by_reset false rest = rest

ticked_plain : (rate : Rate) (s : Served) → s.core.until ≡ None → (on_event (Tick rate) s).core ≡ s.core
ticked_plain rate s plain = rw plain refl

byte_one : (byte : ℕ) (s t : Served) → AreOne s t → tenths_in (completed s.core.open_bytes byte) ≡ 0 → AreOne (on_event (Byte byte) s) (on_event (Byte byte) t)
byte_one byte s t one none =
    let w = arrived_plain (completed s.core.open_bytes byte) s.clock t.clock (record s.core { open_bytes = open_after s.core.open_bytes byte }) none one.plain in
    record {
      core = ap (λ (x : CoreState). after_byte byte t.clock x) one.core ∙ w.0;
      plain = w.1;
    }

-- events among which no frame begins
events_one : (s t : Served) (events rest : List Event) → AreUntimed events → AreOne s t → AreUndelayed s (events ++ rest)
    → AreOne (served_after s events) (served_after t events) × AreUndelayed (served_after s events) rest
events_one s t [] rest untimed one undelayed = (one, undelayed)
events_one s t (Tick rate ∷ events) rest untimed one undelayed = absurd untimed
events_one s t (Byte byte ∷ events) rest untimed one undelayed =
    events_one (on_event (Byte byte) s) (on_event (Byte byte) t) events rest untimed (byte_one byte s t one undelayed.0) undelayed.1
events_one s t (Reset ∷ events) rest untimed one undelayed =
    events_one (on_event Reset s) (on_event Reset t) events rest untimed (record { core = refl; plain = refl }) undelayed

after_append : (s : Served) (es fs : List Event) → served_after s (es ++ fs) ≡ served_after (served_after s es) fs
after_append s [] fs = refl
after_append s (e ∷ es) fs = after_append (on_event e s) es fs

tick_first : (rate : Rate) (s t : Served) → AreOne s t → AreOne (on_event (Tick rate) s) t
tick_first rate s t one = record {
  core = one.core ∙ sym (ticked_plain rate s one.plain);
  plain = ap (λ (x : CoreState). x.until) (ticked_plain rate s one.plain) ∙ one.plain;
}

tick_second : (rate : Rate) (s t : Served) → AreOne s t → AreOne s (on_event (Tick rate) t)
tick_second rate s t one = record {
  core = ticked_plain rate t (ap (λ (x : CoreState). x.until) one.core ∙ one.plain) ∙ one.core;
  plain = one.plain;
}

parts_apart : (s : Served) (one two rest : List Event) → AreUndelayed s ((one ++ two) ++ rest) → AreUndelayed s (one ++ (two ++ rest))
parts_apart s [] two rest undelayed = undelayed
parts_apart s (Tick rate ∷ one) two rest undelayed = parts_apart (on_event (Tick rate) s) one two rest undelayed
parts_apart s (Byte byte ∷ one) two rest undelayed = (undelayed.0, parts_apart (on_event (Byte byte) s) one two rest undelayed.1)
parts_apart s (Reset ∷ one) two rest undelayed = parts_apart (on_event Reset s) one two rest undelayed

frames_one : (slow fast : Rate) (s t : Served) (frames : List Parted) → AreParts frames → AreOne s t → AreUndelayed s (whole_frames slow frames)
    → (served_after t (half_frames fast frames)).core ≡ (served_after s (whole_frames slow frames)).core
frames_one slow fast s t [] parts one undelayed = one.core
frames_one slow fast s t (frame ∷ frames) parts one undelayed =
    let begun = tick_second fast (on_event (Tick slow) s) t (tick_first slow s t one) in
    let first = events_one (on_event (Tick slow) s) (on_event (Tick fast) t) frame.one (frame.two ++ whole_frames slow frames) parts.0 begun
    (parts_apart (on_event (Tick slow) s) frame.one frame.two (whole_frames slow frames) undelayed) in
    let half = tick_second fast (served_after (on_event (Tick slow) s) frame.one) (served_after (on_event (Tick fast) t) frame.one) first.0 in
    let second = events_one (served_after (on_event (Tick slow) s) frame.one) (on_event (Tick fast) (served_after (on_event (Tick fast) t) frame.one)) frame.two (whole_frames slow frames) parts.1 half first.1 in
    ap (λ (x : Served). x.core)
    (after_append (on_event (Tick fast) t) frame.one (Tick fast ∷ frame.two ++ half_frames fast frames)
    ∙ after_append (on_event (Tick fast) (served_after (on_event (Tick fast) t) frame.one)) frame.two (half_frames fast frames))
    ∙ frames_one slow fast (served_after (served_after (on_event (Tick slow) s) frame.one) frame.two)
    (served_after (on_event (Tick fast) (served_after (on_event (Tick fast) t) frame.one)) frame.two) frames parts.2 second.0 second.1
    ∙ sym (ap (λ (x : Served). x.core)
    (after_append (on_event (Tick slow) s) (frame.one ++ frame.two) (whole_frames slow frames)
    ∙ ap (λ (x : Served). served_after x (whole_frames slow frames)) (after_append (on_event (Tick slow) s) frame.one frame.two)))

pub halves_one : HalvesAreOne
halves_one slow fast frames parts undelayed = frames_one slow fast start start frames parts (record { core = refl; plain = refl }) undelayed
