-- Delays only put off, and hold few bytes.
use Rattle.std.proofs.Common.{◌≡◌, ℕ, ◌+◌, ◌<◌, ◌≤◌, ◌==◌, ◌⊎◌, Bool, true, false, if◌then◌else◌, List, [], ◌∷◌, ◌++◌, Option, Some, None, length, length-append, refl, sym, ap, subst, ◌∙◌, arith, inl, inr}
use Rattle.std.proofs.lemmas.Bool.Decides.{nat_tests}
use Rattle.dtvcc_codes.specs.declared.commands.Command.{Command}
use Rattle.dtvcc_codes.specs.Reading.{completed, completions, open_after}
use Rattle.dtvcc_screen.specs.declared.clock.Clock.{Clock}
use Rattle.dtvcc_screen.specs.Commands.{on_screen}
use Rattle.dtvcc_screen.specs.Cores.{CoreState, acted_if, after_byte, after_tick, all_acted, arrived_in, clean, fill, fill_in, go_on, held_more, is_cancel, is_due, is_reset, released, tenths_of, until_of}
use Rattle.dtvcc_screen.specs.Laws.{HasNoReset, bytes_among, on_screen_all, on_screen_if}
use Rattle.dtvcc_screen.specs.Meaning.{Event, Tick, Byte, Reset, Served, served_after, on_event, start, ticked}
use Rattle.dtvcc_screen.specs.Objects.{acting_on}
use Rattle.dtvcc_screen.specs.Screens.{ScreenState, empty_screen}
use Rattle.dtvcc_screen.proofs.CoreLemmas.{all_acted-open, arrived_reset, by_byte, moved}
use Rattle.dtvcc_screen.proofs.StandsLemmas.{cancel_is, opened}

-- where all that is held has acted
abbrev led : CoreState → ScreenState
led core = on_screen_all core.held core.screen

led_more : (held : List (Option Command)) (said : Option Command) (s : ScreenState) → on_screen_all (held ++ said ∷ []) s ≡ on_screen_if said (on_screen_all held s)
led_more [] said s = refl
led_more (first ∷ rest) said s = led_more rest said (on_screen_if first s)

-- outside of a delay nothing is held, and fewer than 128 bytes are held
record IsFew (core : CoreState) : Type 0 where
  calm : core.until ≡ None → core.held ≡ []
  few : length core.held < 128

-- what is held acts: it leads to where it led before, and fewer are held
record Acts (core : CoreState) (held : List (Option Command)) (s : ScreenState) : Type 0 where
  leads : led core ≡ on_screen_all held s
  calm : core.until ≡ None → core.held ≡ []
  fewer : (core.held ≡ []) ⊎ (length core.held < length held)

goes_on : (until : Option ℕ) (first : Option Command) (rest : List (Option Command)) (clock : Clock) (open_bytes : List ℕ) (s : ScreenState)
    → Acts (all_acted rest clock (acting_on open_bytes (on_screen_if first s))) rest (on_screen_if first s)
    → Acts (go_on until rest (moved open_bytes (on_screen_if first s) until) (all_acted rest clock (moved open_bytes (on_screen_if first s) until))) (first ∷ rest) s
goes_on None first rest clock open_bytes s acts = record {
  leads = acts.leads;
  calm = acts.calm;
  fewer = elim acts.fewer [ inl none ↦ inl none | inr fewer ↦ inr (omega (arith, fewer)) ];
}
goes_on (Some end) first rest clock open_bytes s acts = record {
  leads = refl;
  calm = λ none. absurd cc;
  fewer = inr (omega arith);
}

acts_all : (held : List (Option Command)) (clock : Clock) (open_bytes : List ℕ) (s : ScreenState) → Acts (all_acted held clock (acting_on open_bytes s)) held s
acts_all [] clock open_bytes s = record { leads = refl; calm = λ none. refl; fewer = inl refl }
acts_all (None ∷ rest) clock open_bytes s = goes_on None None rest clock open_bytes s (acts_all rest clock open_bytes s)
acts_all (Some command ∷ rest) clock open_bytes s =
    goes_on (until_of (tenths_of command) clock None) (Some command) rest clock open_bytes s (acts_all rest clock open_bytes (on_screen command s))

few_of : (core : CoreState) (held : List (Option Command)) (s : ScreenState) → Acts core held s → length held ≤ 128 → IsFew core
few_of core held s acts most = record {
  calm = acts.calm;
  few = elim acts.fewer [
    | inl none ↦ subst (λ (xs : List (Option Command)). length xs < 128) (sym none) (omega arith)
    | inr fewer ↦ omega (arith, fewer)
  ];
}

-- a step of a service: it leads where a command leads, the cut goes on, and few are held
record Steps (said : Option Command) (open_bytes : List ℕ) (was now : CoreState) : Type 0 where
  leads : led now ≡ on_screen_if said (led was)
  cut : now.open_bytes ≡ open_bytes
  few : IsFew now

release_steps : (clock : Clock) (core : CoreState) → length core.held ≤ 128 → Steps None core.open_bytes core (released clock core)
release_steps clock core most =
    let acts = acts_all core.held clock core.open_bytes core.screen in
    record {
      leads = acts.leads;
      cut = all_acted-open core.held clock (acting_on core.open_bytes core.screen);
      few = few_of (released clock core) core.held core.screen acts most;
    }

tick_steps : (clock : Clock) (core : CoreState) → IsFew core → Steps None core.open_bytes core (after_tick clock core)
tick_steps clock core few = at (is_due core.until clock.ticks) where
  at : (due : Bool) → Steps None core.open_bytes core (if due then released clock core else core)
  at true = release_steps clock core (let less = few.few in omega arith)
  at false = record { leads = refl; cut = refl; few = few }

-- a byte outside of a delay
now_steps : (said : Option Command) (clock : Clock) (core : CoreState) → core.held ≡ [] → Steps said core.open_bytes core (acted_if said clock core)
now_steps None clock core none = record {
  leads = refl;
  cut = refl;
  few = record { calm = λ ends. none; few = subst (λ (xs : List (Option Command)). length xs < 128) (sym none) (omega arith) };
}
now_steps (Some command) clock core none = record {
  leads = ap (λ (xs : List (Option Command)). on_screen_all xs (on_screen command core.screen)) none
      ∙ ap (λ (xs : List (Option Command)). on_screen command (on_screen_all xs core.screen)) (sym none);
  cut = refl;
  few = record { calm = λ ends. none; few = subst (λ (xs : List (Option Command)). length xs < 128) (sym none) (omega arith) };
}

-- DelayCancel
cancel_steps : (said : Option Command) (clock : Clock) (core : CoreState) → length core.held < 128 → is_cancel said ≡ true
    → Steps said core.open_bytes core (released clock core)
cancel_steps said clock core few is =
    let steps = release_steps clock core (omega arith) in
    record {
      leads = steps.leads ∙ ap (λ (o : Option Command). on_screen_if o (led core)) (sym (cancel_is said is));
      cut = steps.cut;
      few = steps.few;
    }

-- a byte that is held
held_steps : (said : Option Command) (clock : Clock) (core : CoreState) (end : ℕ) → core.until ≡ Some end → length core.held < 128
    → Steps said core.open_bytes core (held_more said clock core)
held_steps said clock core end in_delay few = at (length (core.held ++ said ∷ []) == 128) refl where
  at : (full : Bool) → (length (core.held ++ said ∷ []) == 128) ≡ full
      → Steps said core.open_bytes core (if full then released clock (record core { held = core.held ++ said ∷ [] }) else record core { held = core.held ++ said ∷ [] })
  at true is =
      let most : length (core.held ++ said ∷ []) ≤ 128 = grind (arith, nat_tests) in
      let steps = release_steps clock (record core { held = core.held ++ said ∷ [] }) most in
      record { leads = steps.leads ∙ led_more core.held said core.screen; cut = steps.cut; few = steps.few }
  at false is =
      let count = length-append core.held (said ∷ []) in
      record {
        leads = led_more core.held said core.screen;
        cut = refl;
        few = record {
          calm = λ none. absurd (let both : Some end ≡ None = sym in_delay ∙ none in cc);
          few = grind (arith, nat_tests);
        };
      }

arrived_steps : (until : Option ℕ) (said : Option Command) (clock : Clock) (core : CoreState) → core.until ≡ until → IsFew core
    → Steps said core.open_bytes core (arrived_in until said clock core)
arrived_steps None said clock core is few = now_steps said clock core (few.calm is)
arrived_steps (Some end) said clock core is few = at (is_cancel said) refl where
  at : (cancel : Bool) → is_cancel said ≡ cancel → Steps said core.open_bytes core (if cancel then released clock core else held_more said clock core)
  at true cancels = cancel_steps said clock core few.few cancels
  at false holds = held_steps said clock core end is few.few

byte_steps : (byte : ℕ) (clock : Clock) (core : CoreState) → is_reset (completed core.open_bytes byte) ≡ false → IsFew core
    → Steps (completed core.open_bytes byte) (open_after core.open_bytes byte) core (after_byte byte clock core)
byte_steps byte clock core no_reset few =
    let said : Option Command = completed core.open_bytes byte in
    let steps = arrived_steps core.until said clock (opened byte core) refl (record { calm = few.calm; few = few.few }) in
    subst (λ (b : Bool). Steps said (open_after core.open_bytes byte) core (if b then clean else arrived_in core.until said clock (opened byte core)))
    (sym no_reset) (record { leads = steps.leads; cut = steps.cut; few = steps.few })

-- any events without a reset
led_after : (events : List Event) (s : Served) (open_bytes : List ℕ) → s.core.open_bytes ≡ open_bytes → IsFew s.core → HasNoReset open_bytes events
    → led (served_after s events).core ≡ on_screen_all (completions open_bytes (bytes_among events)) (led s.core)
led_after [] s open_bytes is few none = refl
led_after (Tick rate ∷ events) s open_bytes is few none =
    let steps = tick_steps (ticked rate s.clock) s.core few in
    led_after events (on_event (Tick rate) s) open_bytes (steps.cut ∙ is) steps.few none
    ∙ ap (on_screen_all (completions open_bytes (bytes_among events))) steps.leads
led_after (Byte byte ∷ events) s open_bytes is few none =
    let no_reset = subst (λ (open_now : List ℕ). is_reset (completed open_now byte) ≡ false) (sym is) none.0 in
    let steps = byte_steps byte s.clock s.core no_reset few in
    led_after events (on_event (Byte byte) s) (open_after open_bytes byte) (steps.cut ∙ ap (λ (open_now : List ℕ). open_after open_now byte) is) steps.few none.1
    ∙ ap (on_screen_all (completions (open_after open_bytes byte) (bytes_among events)))
    (steps.leads ∙ ap (λ (open_now : List ℕ). on_screen_if (completed open_now byte) (led s.core)) is)
led_after (Reset ∷ events) s open_bytes is few none = absurd none

clean_few : IsFew clean
clean_few = record { calm = λ none. refl; few = omega arith }

pub put_off : (events : List Event) → HasNoReset [] events
    → on_screen_all (served_after start events).core.held (served_after start events).core.screen ≡ on_screen_all (completions [] (bytes_among events)) empty_screen
put_off events none = led_after events start [] refl clean_few none

-- few are held, whatever comes
byte_few : (byte : ℕ) (clock : Clock) (core : CoreState) → IsFew core → IsFew (after_byte byte clock core)
byte_few byte clock core few = at (is_reset (completed core.open_bytes byte)) refl where
  at : (reset : Bool) → is_reset (completed core.open_bytes byte) ≡ reset → IsFew (after_byte byte clock core)
  at true is =
      subst IsFew (sym (by_byte core byte clock (completed core.open_bytes byte) refl ∙ arrived_reset (completed core.open_bytes byte) clock (opened byte core) is)) clean_few
  at false is = (byte_steps byte clock core is few).few

few_after : (events : List Event) (s : Served) → IsFew s.core → IsFew (served_after s events).core
few_after [] s few = few
few_after (Tick rate ∷ events) s few = few_after events (on_event (Tick rate) s) (tick_steps (ticked rate s.clock) s.core few).few
few_after (Byte byte ∷ events) s few = few_after events (on_event (Byte byte) s) (byte_few byte s.clock s.core few)
few_after (Reset ∷ events) s few = few_after events (on_event Reset s) clean_few

pub held_few : (events : List Event) → length (served_after start events).core.held ≤ 127
held_few events = let few = (few_after events start clean_few).few in omega arith

fill_at_most : (until : Option ℕ) (said : Option Command) (held : List (Option Command)) → length held ≤ 127 → fill_in until said held ≤ 128
fill_at_most None said held few = omega arith
fill_at_most (Some end) said held few = at (is_reset said) (is_cancel said) where
  at : (reset cancel : Bool) → (if reset then 0 else if cancel then 0 else length held + 1) ≤ 128
  at true cancel = omega arith
  at false true = omega arith
  at false false = omega arith

pub fill_few : (events : List Event) (byte : ℕ) → fill byte (served_after start events).core ≤ 128
fill_few events byte =
    let core : CoreState = (served_after start events).core in
    fill_at_most core.until (completed core.open_bytes byte) core.held (held_few events)

pub reset_leaves : (byte : ℕ) (clock : Clock) (core : CoreState) → is_reset (completed core.open_bytes byte) ≡ true → after_byte byte clock core ≡ clean
reset_leaves byte clock core is =
    by_byte core byte clock (completed core.open_bytes byte) refl ∙ arrived_reset (completed core.open_bytes byte) clock (opened byte core) is
