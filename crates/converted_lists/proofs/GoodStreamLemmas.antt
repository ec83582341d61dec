-- What a byte completes rests on the bytes before it alone.
use Rattle.std.proofs.Common.{◌≡◌, ℕ, ◌+◌, ◌==◌, Bool, true, false, List, [], ◌∷◌, ◌++◌, length, Option, Some, None, refl, sym, ap, ◌∙◌, subst, arith}
use Rattle.std.specs.Prelude.{if◌then◌else◌}
use Rattle.dtvcc_codes.specs.declared.commands.Command.{Command}
use Rattle.dtvcc_codes.specs.Reading.{completed, open_after}
use Rattle.dtvcc_screen.specs.declared.clock.Clock.{Clock}
use Rattle.dtvcc_screen.specs.Cores.{CoreState, acted_if, after_tick, arrived, arrived_in, clean, held_more, is_cancel, is_due, is_reset, released}
use Rattle.dtvcc_screen.specs.Meaning.{Byte, Event, Reset, Served, Tick, on_event, start}
use Rattle.rate_convert.specs.HalvedServices.{AreGood, IsGood}
use Rattle.services_shown.specs.Filling.{AllFill}
use Rattle.rate_convert.specs.GoodStreams.{IsGoodStream}
use Rattle.converted_lists.specs.FilledStreams.{StreamsAreGood}
use Rattle.rate_convert.proofs.HalvedServiceLemmas.{all_open}

released_front : (clock : Clock) (core : CoreState) → (released clock core).open_bytes ≡ core.open_bytes
released_front clock core = ap (λ (x : CoreState). x.open_bytes) (all_open core.held clock (record core { until = None; held = [] }) core.open_bytes)

acted_front : (k : Option Command) (clock : Clock) (core : CoreState) → (acted_if k clock core).open_bytes ≡ core.open_bytes
acted_front None clock core = refl
acted_front (Some command) clock core = refl

held_front : (k : Option Command) (clock : Clock) (core : CoreState) → (held_more k clock core).open_bytes ≡ core.open_bytes
held_front k clock core = by_full (length (core.held ++ k ∷ []) == 128)
  where
    by_full : (b : Bool) → (if b then released clock (record core { held = core.held ++ k ∷ [] }) else record core { held = core.held ++ k ∷ [] }).open_bytes ≡ core.open_bytes
    by_full true = released_front clock (record core { held = core.held ++ k ∷ [] })
    by_full false = refl

arrived_front : (k : Option Command) (clock : Clock) (core : CoreState) → is_reset k ≡ false → (arrived k clock core).open_bytes ≡ core.open_bytes
arrived_front k clock core plain =
    ap (λ b. (if b then clean else arrived_in core.until k clock core).open_bytes) plain ∙ by_until core.until
  where
    by_cancel : (b : Bool) → (if b then released clock core else held_more k clock core).open_bytes ≡ core.open_bytes
    by_cancel true = released_front clock core
    by_cancel false = held_front k clock core

    by_until : (u : Option ℕ) → (arrived_in u k clock core).open_bytes ≡ core.open_bytes
    by_until None = acted_front k clock core
    by_until (Some e) = by_cancel (is_cancel k)

tick_front : (clock : Clock) (core : CoreState) → (after_tick clock core).open_bytes ≡ core.open_bytes
tick_front clock core = by_due (is_due core.until clock.ticks)
  where
    by_due : (b : Bool) → (if b then released clock core else core).open_bytes ≡ core.open_bytes
    by_due true = released_front clock core
    by_due false = refl

streams : (s : Served) (front : List ℕ) (events : List Event) → s.core.open_bytes ≡ front → IsGoodStream front events → AllFill 127 s events → AreGood s events
streams s front [] at good fills = tt
streams s front (Tick rate ∷ events) at good fills =
    streams (on_event (Tick rate) s) front events (tick_front (record { ticks = s.clock.ticks + 1; rate = rate }) s.core ∙ at) good fills
streams s front (Byte byte ∷ events) at good fills =
    let here : IsGood (completed s.core.open_bytes byte) = subst (λ o. IsGood (completed o byte)) (sym at) good.0 in (
      here,
      omega (arith, fills.0),
      streams (on_event (Byte byte) s) (open_after front byte) events
          (arrived_front (completed s.core.open_bytes byte) s.clock (record s.core { open_bytes = open_after s.core.open_bytes byte }) here.no_reset ∙ ap (λ o. open_after o byte) at)
          good.1 fills.1,
    )
streams s front (Reset ∷ events) at good fills = absurd good

pub streams_good : StreamsAreGood
streams_good events good fills = streams start [] events refl good fills
