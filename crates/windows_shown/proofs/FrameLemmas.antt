-- The frames of a sound lane: before each of them either no delay is on and nothing is held, or one is, and what is held is what
-- it puts off and what was loaded since.
use Rattle.std.proofs.Common.{◌≡◌, ℕ, zero, suc, ◌+◌, ◌-◌, ◌<◌, ◌≤◌, ◌==◌, ◌⊎◌, Bool, true, false, if◌then◌else◌, List, [], ◌∷◌, ◌++◌, Option, Some, None, length, length-append, refl, sym, ap, subst, ◌∙◌, arith, add-zero, inl, inr}
use Rattle.std.specs.Prelude.{map}
use Rattle.std.proofs.lemmas.Bool.{cases_lt}
use Rattle.std.proofs.lemmas.Bool.Decides.{nat_tests}
use Rattle.std.proofs.lemmas.List.{map-append}
use Rattle.cc_base.specs.declared.rate.Rate.{Rate}
use Rattle.cc_base.specs.declared.rate.Rate.TheVariants.{F2997}
use Rattle.cc_base.specs.Rate.{delay_frames_of}
use Rattle.cc_base.specs.Steps.{front_from}
use Rattle.dtvcc_codes.specs.declared.commands.Command.{Command}
use Rattle.dtvcc_codes.specs.declared.commands.Command.TheVariants.{Dly}
use Rattle.dtvcc_codes.specs.Reading.{completed, completions, open_after, spelled_command, told_size}
use Rattle.dtvcc_screen.specs.declared.clock.Clock.{Clock}
use Rattle.dtvcc_screen.specs.Cores.{CoreState, arrived, fill, released}
use Rattle.dtvcc_screen.specs.Laws.{on_screen_all, on_screen_if}
use Rattle.dtvcc_screen.specs.Meaning.{Event, Tick, Byte, Reset, Served, served_after, on_event, ticked}
use Rattle.dtvcc_screen.specs.Objects.{acting_on}
use Rattle.dtvcc_screen.specs.Screens.{ScreenState, empty_screen}
use Rattle.dtvcc_screen.proofs.CoreLemmas.{by_byte, completions_length}
use Rattle.dtvcc_screen.proofs.MeaningLemmas.{after_append}
use Rattle.windows_shown.specs.Filling.{AllFill}
use Rattle.dtvcc_author.specs.declared.frame_events.Delay.{Delay}
use Rattle.dtvcc_author.specs.EventBytes.{delay_bytes}
use Rattle.windows_shown.specs.ServiceLanes.{IsInDelay, IsOutside, Lane, lane_frame_bytes, lane_frame_events, opening_events, served, spent}
use Rattle.windows_shown.specs.Soundness.{ArePlain, IsSoundLane}
use Rattle.windows_shown.specs.Undelayed.{acted_on, opened, shows_bytes, undelayed}
use Rattle.windows_shown.proofs.PlainLemmas.{AllPlain, later, later_fill, now, now_fill, releases, served_at}

-- bytes one after another
after_both : (s : Served) (bytes more : List ℕ) → served_after s (map Byte (bytes ++ more)) ≡ served_after (served_after s (map Byte bytes)) (map Byte more)
after_both s bytes more = ap (served_after s) (map-append Byte bytes more) ∙ after_append s (map Byte bytes) (map Byte more)

pub fill_append : (s : Served) (events more : List Event) → AllFill 127 s events → AllFill 127 (served_after s events) more → AllFill 127 s (events ++ more)
fill_append s [] more all too = too
fill_append s (Tick rate ∷ events) more all too = fill_append (on_event (Tick rate) s) events more all too
fill_append s (Byte byte ∷ events) more all too = (all.0, fill_append (on_event (Byte byte) s) events more all.1 too)
fill_append s (Reset ∷ events) more all too = fill_append (on_event Reset s) events more all too

fill_both : (s : Served) (bytes more : List ℕ) → AllFill 127 s (map Byte bytes) → AllFill 127 (served_after s (map Byte bytes)) (map Byte more)
    → AllFill 127 s (map Byte (bytes ++ more))
fill_both s bytes more all too =
    subst (λ (events : List Event). AllFill 127 s events) (sym (map-append Byte bytes more)) (fill_append s (map Byte bytes) (map Byte more) all too)

-- what is loaded in one frame, in one frame more, and in fewer frames
spent_one : (lane : Lane) (frame : ℕ) → spent lane frame 1 ≡ length (lane.loads frame)
spent_one lane frame =
    let same : length (lane.loads (frame + 0)) ≡ length (lane.loads frame) = ap (λ (k : ℕ). length (lane.loads k)) (add-zero frame) in
    let all : 0 + length (lane.loads (frame + 0)) ≡ length (lane.loads frame) = omega arith in
    all

spent_more : (lane : Lane) (from frame : ℕ) → from < frame
    → spent lane from (suc frame - from) ≡ spent lane from (frame - from) + length (lane.loads frame)
spent_more lane from frame before =
    let count : suc frame - from ≡ suc (frame - from) = omega arith in
    let here : from + (frame - from) ≡ frame = omega arith in
    ap (spent lane from) count ∙ ap (λ (k : ℕ). spent lane from (frame - from) + length (lane.loads k)) here

spent_step : (lane : Lane) (from count more : ℕ) → spent lane from count ≤ spent lane from (count + more)
spent_step lane from count zero = let same : spent lane from (count + zero) ≡ spent lane from count = ap (spent lane from) (add-zero count) in omega arith
spent_step lane from count (suc more) =
    let rest = spent_step lane from count more in
    let next : count + suc more ≡ suc (count + more) = omega arith in
    let same : spent lane from (count + suc more) ≡ spent lane from (count + more) + length (lane.loads (from + (count + more))) = ap (spent lane from) next in
    omega arith

spent_less : (lane : Lane) (from few many : ℕ) → few ≤ many → spent lane from few ≤ spent lane from many
spent_less lane from few many below =
    let same : few + (many - few) ≡ many = omega arith in
    subst (λ (k : ℕ). spent lane from few ≤ spent lane from k) same (spent_step lane from few (many - few))

-- plain bytes outside of a delay, from nothing open to nothing open
plain_now : (bytes : List ℕ) (clock : Clock) (screen : ScreenState) → ArePlain bytes
    → served_after (served_at clock screen [] None []) (map Byte bytes) ≡ served_at clock (on_screen_all (completions [] bytes) screen) [] None []
plain_now bytes clock screen are =
    now bytes clock screen [] are.plain
    ∙ ap (λ (open_bytes : List ℕ). served_at clock (on_screen_all (completions [] bytes) screen) open_bytes None []) are.whole

-- Delay begins a delay
delay_first : completed [] 0x8D ≡ None
unfolding told_size
delay_first = refl

delay_open : open_after [] 0x8D ≡ 0x8D ∷ []
unfolding told_size
delay_open = refl

delay_second : (tenths : ℕ) → completed (0x8D ∷ []) tenths ≡ Some (Dly tenths)
unfolding told_size spelled_command
delay_second tenths = refl

delay_closed : (tenths : ℕ) → open_after (0x8D ∷ []) tenths ≡ []
unfolding told_size
delay_closed tenths = refl

begun_one : (clock : Clock) (screen : ScreenState)
    → on_event (Byte 0x8D) (served_at clock screen [] None []) ≡ served_at clock screen (0x8D ∷ []) None []
begun_one clock screen =
    ap (λ (core : CoreState). record { clock = clock; core = core })
    (by_byte (acting_on [] screen) 0x8D clock None (sym delay_first)
    ∙ ap (λ (open_bytes : List ℕ). acting_on open_bytes screen) delay_open)

delay_begins : (tenths : ℕ) (clock : Clock) (screen : ScreenState) → 0 < tenths
    → served_after (served_at clock screen [] None []) (map Byte (0x8D ∷ tenths ∷ []))
    ≡ served_at clock screen [] (Some (clock.ticks + delay_frames_of clock.rate tenths)) []
delay_begins tenths clock screen some =
    let until : ℕ = clock.ticks + delay_frames_of clock.rate tenths in
    let test : (tenths == 0) ≡ false = grind (arith, nat_tests) in
    ap (λ (s : Served). on_event (Byte tenths) s) (begun_one clock screen)
    ∙ ap (λ (core : CoreState). record { clock = clock; core = core })
    (by_byte (acting_on (0x8D ∷ []) screen) tenths clock (Some (Dly tenths)) (sym (delay_second tenths))
    ∙ ap (λ (open_bytes : List ℕ). arrived (Some (Dly tenths)) clock (acting_on open_bytes screen)) (delay_closed tenths)
    ∙ ap (λ (none : Bool). record { screen = screen; open_bytes = []; until = if none then None else Some until; held = [] }) test)

-- its bytes fill nothing
begins_fill : (tenths : ℕ) (clock : Clock) (screen : ScreenState) → AllFill 127 (served_at clock screen [] None []) (map Byte (0x8D ∷ tenths ∷ []))
begins_fill tenths clock screen = (
  (let none : 0 ≤ 127 = omega arith in none),
  (subst (λ (s : Served). fill tenths s.core ≤ 127) (sym (begun_one clock screen)) (let none : 0 ≤ 127 = omega arith in none), tt),
)

-- DisplayWindows after it, and the loads, are plain and whole
shows_plain : (windows : ℕ) (loads : List ℕ) → ArePlain loads → AllPlain (completions [] (0x89 ∷ windows ∷ loads))
unfolding told_size spelled_command
shows_plain windows loads are = (tt, (refl, are.plain))

shows_whole : (windows : ℕ) (loads : List ℕ) → ArePlain loads → front_from open_after [] (0x89 ∷ windows ∷ loads) ≡ []
unfolding told_size
shows_whole windows loads are = are.whole

-- plain commands one after another
plain_append : (said more : List (Option Command)) → AllPlain said → AllPlain more → AllPlain (said ++ more)
plain_append [] more all too = too
plain_append (first ∷ said) more all too = (all.0, plain_append said more all.1 too)

-- what is held acts, and then more of it
acts_both : (said more : List (Option Command)) (s : ScreenState) → on_screen_all (said ++ more) s ≡ on_screen_all more (on_screen_all said s)
acts_both [] more s = refl
acts_both (first ∷ said) more s = acts_both said more (on_screen_if first s)

-- DisplayWindows acts before the loads
shows_first : (windows : ℕ) (loads : List ℕ) (s : ScreenState)
    → acted_on (0x89 ∷ windows ∷ loads) s ≡ acted_on loads (acted_on (0x89 ∷ windows ∷ []) s)
unfolding told_size spelled_command
shows_first windows loads s = refl

module _ (lane : Lane) (sound : IsSoundLane lane) where
  -- two delays that are on before one frame are one
  one_delay : (start other frame : ℕ) (delay more : Delay) → IsInDelay lane start delay frame → IsInDelay lane other more frame
      → (start ≡ other) × (delay ≡ more)
  one_delay start other frame delay more is too =
      elim (cases_lt start other) [
        | inl low ↦ absurd (let quiet = sound.quiet start other delay is.starts low (omega (arith, too.from, is.to)) in
            let both : Some more ≡ None = sym too.starts ∙ quiet.delay in cc)
        | inr high ↦ elim (cases_lt other start) [
          | inl low ↦ absurd (let quiet = sound.quiet other start more too.starts low (omega (arith, is.from, too.to)) in
              let both : Some delay ≡ None = sym is.starts ∙ quiet.delay in cc)
          | inr least ↦
              let same : start ≡ other = omega arith in
              let both : Some delay ≡ Some more = sym is.starts ∙ ap lane.delay same ∙ too.starts in
              let one : delay ≡ more = cc in
              (same, one)
        ]
      ]

  -- no delay is on before the frame
  record Calm (frame : ℕ) : Type 0 where
    clock : Clock
    screen : ScreenState
    is : served lane frame ≡ served_at clock screen [] None []
    ticks : clock.ticks ≡ frame
    free : IsOutside lane frame
    shows : screen ≡ undelayed lane frame

  -- one is
  record Within (frame start : ℕ) (delay : Delay) : Type 0 where
    clock : Clock
    screen : ScreenState
    until : ℕ
    held : List (Option Command)
    is : served lane frame ≡ served_at clock screen [] (Some until) held
    ticks : clock.ticks ≡ frame
    until_is : until ≡ delay.ends + 1
    on : IsInDelay lane start delay frame
    count : length held ≡ 2 + spent lane start (frame - start)
    plain : AllPlain held
    screen_is : screen ≡ (served_after (served lane start) (opening_events lane start)).core.screen
    shows : screen ≡ opened lane start
    leads : on_screen_all held screen ≡ undelayed lane frame

  abbrev Stands : ℕ → Type 0
  Stands frame = Calm frame ⊎ ((start : ℕ) × (delay : Delay) × Within frame start delay)

  -- what a frame does
  record Step (frame : ℕ) : Type 0 where
    stands : Stands (suc frame)
    fills : AllFill 127 (served lane frame) (lane_frame_events lane frame)

  -- in the frame, after its tick, no delay is on
  record Ready (frame : ℕ) : Type 0 where
    clock : Clock
    screen : ScreenState
    is : on_event (Tick lane.rate) (served lane frame) ≡ served_at clock screen [] None []
    ticks : clock.ticks ≡ frame + 1
    rate : clock.rate ≡ lane.rate
    shows : screen ≡ undelayed lane frame
    free : (start : ℕ) (delay : Delay) → IsInDelay lane start delay frame → frame < delay.ends → ⊥

  -- the frame begins outside of a delay
  calm_ready : (frame : ℕ) → Calm frame → Ready frame
  calm_ready frame calm = record {
    clock = ticked lane.rate calm.clock;
    screen = calm.screen;
    is = ap (on_event (Tick lane.rate)) calm.is;
    ticks = ap (λ (n : ℕ). n + 1) calm.ticks;
    rate = refl;
    shows = calm.shows;
    free = λ start delay on more. calm.free start delay on;
  }

  -- a delay ends as the frame begins
  due_ready : (frame start : ℕ) (delay : Delay) → Within frame start delay → frame ≡ delay.ends → Ready frame
  due_ready frame start delay within due =
      let clock : Clock = ticked lane.rate within.clock in
      let core : CoreState = record { screen = within.screen; open_bytes = []; until = Some within.until; held = within.held } in
      let ticks = within.ticks in
      let until = within.until_is in
      let test : (within.until == within.clock.ticks + 1) ≡ true = grind (arith, nat_tests) in
      record {
        clock = clock;
        screen = on_screen_all within.held within.screen;
        is = ap (on_event (Tick lane.rate)) within.is
            ∙ ap (λ (ends : Bool). record { clock = clock; core = if ends then released clock core else core }) test
            ∙ ap (λ (after_it : CoreState). record { clock = clock; core = after_it }) (releases within.held clock within.screen [] within.plain);
        ticks = ap (λ (n : ℕ). n + 1) within.ticks;
        rate = refl;
        shows = within.leads;
        free = λ other more on below.
            let same = one_delay start other frame delay more within.on on in
            let ends : delay.ends ≡ more.ends = ap (λ (d : Delay). d.ends) same.1 in
            omega arith;
      }

  -- a frame in which nothing but loads comes
  quiet_acts : (frame : ℕ) → lane.events frame ≡ [] → lane.delay frame ≡ None
      → acted_on (shows_bytes (lane.delay frame)) (opened lane frame) ≡ undelayed lane frame
  quiet_acts frame no_events no_delay =
      ap (λ (o : Option Delay). acted_on (shows_bytes o) (opened lane frame)) no_delay
      ∙ ap (λ (bytes : List ℕ). acted_on bytes (undelayed lane frame)) no_events

  -- a delay goes on
  within_step : (frame start : ℕ) (delay : Delay) → Within frame start delay → frame < delay.ends → Step frame
  within_step frame start delay within below =
      let clock : Clock = ticked lane.rate within.clock in
      let core : CoreState = record { screen = within.screen; open_bytes = []; until = Some within.until; held = within.held } in
      let begun_at : Served = on_event (Tick lane.rate) (served lane frame) in
      let before : start < frame = within.on.from in
      let quiet = sound.quiet start frame delay within.on.starts before below in
      let loads = sound.loads frame in
      let ticks = within.ticks in
      let until = within.until_is in
      let early : (within.until == within.clock.ticks + 1) ≡ false = grind (arith, nat_tests) in
      let begun : begun_at ≡ served_at clock within.screen [] (Some within.until) within.held =
      ap (on_event (Tick lane.rate)) within.is
      ∙ ap (λ (ends : Bool). record { clock = clock; core = if ends then released clock core else core }) early in
      let bytes : lane_frame_bytes lane frame ≡ lane.loads frame =
      ap (λ (events : List ℕ). events ++ (delay_bytes (lane.delay frame) ++ lane.loads frame)) quiet.events
      ∙ ap (λ (o : Option Delay). delay_bytes o ++ lane.loads frame) quiet.delay in
      let count = within.count in
      let more = spent_more lane start frame before in
      let less = spent_less lane start (suc frame - start) (delay.ends - start) (omega arith) in
      let most = sound.budget start delay within.on.starts in
      let room : length within.held + length (lane.loads frame) ≤ 127 = omega arith in
      let said : List (Option Command) = completions [] (lane.loads frame) in
      let came : served lane (suc frame) ≡ served_at clock within.screen [] (Some within.until) (within.held ++ said) =
      ap (λ (b : List ℕ). served_after begun_at (map Byte b)) bytes
      ∙ ap (λ (s : Served). served_after s (map Byte (lane.loads frame))) begun
      ∙ later (lane.loads frame) clock within.screen [] within.until within.held room loads.plain
      ∙ ap (λ (open_bytes : List ℕ). served_at clock within.screen open_bytes (Some within.until) (within.held ++ said)) loads.whole in
      let all = length-append within.held said in
      let cut = completions_length [] (lane.loads frame) in
      record {
        stands = inr (
          start,
          delay,
          record {
            clock = clock;
            screen = within.screen;
            until = within.until;
            held = within.held ++ said;
            is = came;
            ticks = (let next : within.clock.ticks + 1 ≡ suc frame = omega arith in next);
            until_is = within.until_is;
            on = record { starts = within.on.starts; from = omega arith; to = omega arith };
            count = omega arith;
            plain = plain_append within.held said within.plain loads.plain;
            screen_is = within.screen_is;
            shows = within.shows;
            leads = acts_both within.held said within.screen
                ∙ ap (acted_on (lane.loads frame)) (within.leads ∙ sym (quiet_acts frame quiet.events quiet.delay));
          },
        );
        fills =
            subst (λ (b : List ℕ). AllFill 127 begun_at (map Byte b)) (sym bytes)
            (subst (λ (s : Served). AllFill 127 s (map Byte (lane.loads frame))) (sym begun)
            (later_fill (lane.loads frame) clock within.screen [] within.until within.held room loads.plain));
      }

  -- a frame in which no delay is on
  ready_step : (frame : ℕ) → Ready frame → (o : Option Delay) → lane.delay frame ≡ o → Step frame
  ready_step frame ready None is =
      let begun_at : Served = on_event (Tick lane.rate) (served lane frame) in
      let events = sound.events frame in
      let loads = sound.loads frame in
      let first : ScreenState = on_screen_all (completions [] (lane.events frame)) ready.screen in
      let behind : served_after begun_at (map Byte (lane.events frame)) ≡ served_at ready.clock first [] None [] =
      ap (λ (s : Served). served_after s (map Byte (lane.events frame))) ready.is ∙ plain_now (lane.events frame) ready.clock ready.screen events in
      let bytes : lane_frame_bytes lane frame ≡ lane.events frame ++ lane.loads frame =
      ap (λ (o : Option Delay). lane.events frame ++ (delay_bytes o ++ lane.loads frame)) is in
      let came : served lane (suc frame) ≡ served_at ready.clock (on_screen_all (completions [] (lane.loads frame)) first) [] None [] =
      ap (λ (b : List ℕ). served_after begun_at (map Byte b)) bytes
      ∙ after_both begun_at (lane.events frame) (lane.loads frame)
      ∙ ap (λ (s : Served). served_after s (map Byte (lane.loads frame))) behind
      ∙ plain_now (lane.loads frame) ready.clock first loads in
      record {
        stands = inl (record {
          clock = ready.clock;
          screen = on_screen_all (completions [] (lane.loads frame)) first;
          is = came;
          ticks = (let ticks = ready.ticks in omega arith);
          shows = ap (λ (s : ScreenState). acted_on (lane.loads frame) (acted_on (lane.events frame) s)) ready.shows
              ∙ ap (λ (o : Option Delay). acted_on (lane.loads frame) (acted_on (shows_bytes o) (opened lane frame))) (sym is);
          free = λ start delay on. elim (cases_lt start frame) [
            | inl low ↦ ready.free start delay (record { starts = on.starts; from = low; to = omega (arith, on.to) }) (omega (arith, on.to))
            | inr high ↦
                let same : start ≡ frame = omega (arith, on.from) in
                let both : Some delay ≡ None = sym on.starts ∙ ap lane.delay same ∙ is in cc
          ];
        });
        fills =
            subst (λ (b : List ℕ). AllFill 127 begun_at (map Byte b)) (sym bytes)
            (fill_both begun_at (lane.events frame) (lane.loads frame)
            (subst (λ (s : Served). AllFill 127 s (map Byte (lane.events frame))) (sym ready.is) (now_fill (lane.events frame) ready.clock ready.screen [] events.plain))
            (subst (λ (s : Served). AllFill 127 s (map Byte (lane.loads frame))) (sym behind) (now_fill (lane.loads frame) ready.clock first [] loads.plain)));
      }
  ready_step frame ready (Some delay) is =
      let begun_at : Served = on_event (Tick lane.rate) (served lane frame) in
      let events = sound.events frame in
      let loads = sound.loads frame in
      let lasting = sound.lasting frame delay is in
      let begins : List ℕ = 0x8D ∷ delay.tenths ∷ [] in
      let rest : List ℕ = 0x89 ∷ delay.windows ∷ lane.loads frame in
      let first : ScreenState = on_screen_all (completions [] (lane.events frame)) ready.screen in
      let until : ℕ = ready.clock.ticks + delay_frames_of ready.clock.rate delay.tenths in
      let behind : served_after begun_at (map Byte (lane.events frame)) ≡ served_at ready.clock first [] None [] =
      ap (λ (s : Served). served_after s (map Byte (lane.events frame))) ready.is ∙ plain_now (lane.events frame) ready.clock ready.screen events in
      let shown : first ≡ opened lane frame = ap (acted_on (lane.events frame)) ready.shows in
      let begun = delay_begins delay.tenths ready.clock first lasting.some in
      let bytes : lane_frame_bytes lane frame ≡ lane.events frame ++ (begins ++ rest) =
      ap (λ (o : Option Delay). lane.events frame ++ (delay_bytes o ++ lane.loads frame)) is in
      let one : suc frame - frame ≡ 1 = omega arith in
      let here : spent lane frame (suc frame - frame) ≡ length (lane.loads frame) = ap (spent lane frame) one ∙ spent_one lane frame in
      let less = spent_less lane frame (suc frame - frame) (delay.ends - frame) (let after_it = lasting.after in omega arith) in
      let most = sound.budget frame delay is in
      let room : 0 + length (0x89 ∷ delay.windows ∷ lane.loads frame) ≤ 127 = omega arith in
      let plain = shows_plain delay.windows (lane.loads frame) loads in
      let came : served lane (suc frame) ≡ served_at ready.clock first [] (Some until) (completions [] rest) =
      ap (λ (b : List ℕ). served_after begun_at (map Byte b)) bytes
      ∙ after_both begun_at (lane.events frame) (begins ++ rest)
      ∙ ap (λ (s : Served). served_after s (map Byte (begins ++ rest))) behind
      ∙ after_both (served_at ready.clock first [] None []) begins rest
      ∙ ap (λ (s : Served). served_after s (map Byte rest)) begun
      ∙ later rest ready.clock first [] until [] room plain
      ∙ ap (λ (open_bytes : List ℕ). served_at ready.clock first open_bytes (Some until) (completions [] rest)) (shows_whole delay.windows (lane.loads frame) loads) in
      let cut = completions_length [] rest in
      let frames : delay_frames_of ready.clock.rate delay.tenths ≡ delay_frames_of lane.rate delay.tenths =
      ap (λ (r : Rate). delay_frames_of r delay.tenths) ready.rate in
      record {
        stands = inr (
          frame,
          delay,
          record {
            clock = ready.clock;
            screen = first;
            until = until;
            held = completions [] rest;
            is = came;
            ticks = (let ticks = ready.ticks in omega arith);
            until_is = (let ticks = ready.ticks in let ends = lasting.ends_is in omega arith);
            on = record { starts = is; from = omega arith; to = (let after_it = lasting.after in omega arith) };
            count = (let size : length rest ≡ 2 + length (lane.loads frame) = omega arith in omega arith);
            plain = plain;
            screen_is = sym (ap (λ (s : Served). s.core.screen) behind);
            shows = shown;
            leads = shows_first delay.windows (lane.loads frame) first
                ∙ ap (λ (s : ScreenState). acted_on (lane.loads frame) (acted_on (0x89 ∷ delay.windows ∷ []) s)) shown
                ∙ ap (λ (o : Option Delay). acted_on (lane.loads frame) (acted_on (shows_bytes o) (opened lane frame))) (sym is);
          },
        );
        fills =
            subst (λ (b : List ℕ). AllFill 127 begun_at (map Byte b)) (sym bytes)
            (fill_both begun_at (lane.events frame) (begins ++ rest)
            (subst (λ (s : Served). AllFill 127 s (map Byte (lane.events frame))) (sym ready.is) (now_fill (lane.events frame) ready.clock ready.screen [] events.plain))
            (subst (λ (s : Served). AllFill 127 s (map Byte (begins ++ rest))) (sym behind)
            (fill_both (served_at ready.clock first [] None []) begins rest (begins_fill delay.tenths ready.clock first)
            (subst (λ (s : Served). AllFill 127 s (map Byte rest)) (sym begun) (later_fill rest ready.clock first [] until [] room plain)))));
      }

  step : (frame : ℕ) → Stands frame → Step frame
  step frame (inl calm) = ready_step frame (calm_ready frame calm) (lane.delay frame) refl
  step frame (inr (start, delay, within)) =
      elim (cases_lt frame delay.ends) [
        | inl low ↦ within_step frame start delay within low
        | inr high ↦ ready_step frame (due_ready frame start delay within (let to : frame ≤ delay.ends = within.on.to in omega arith)) (lane.delay frame) refl
      ]

  stands_at : (frame : ℕ) → Stands frame
  stands_at zero = inl (record {
    clock = record { ticks = 0; rate = F2997 };
    screen = empty_screen;
    is = refl;
    ticks = refl;
    shows = refl;
    free = λ start delay on. let below : start < 0 = on.from in omega arith;
  })
  stands_at (suc frame) = (step frame (stands_at frame)).stands

  -- at most 127 bytes are held
  pub buffer_keeps : (frame : ℕ) → AllFill 127 (served lane frame) (lane_frame_events lane frame)
  buffer_keeps frame = (step frame (stands_at frame)).fills

  -- within a delay the screen stays
  pub screen_stays : (start frame : ℕ) (delay : Delay) → IsInDelay lane start delay frame
      → (served lane frame).core.screen ≡ (served_after (served lane start) (opening_events lane start)).core.screen
  screen_stays start frame delay on = at (stands_at frame)
    where
      at : Stands frame → (served lane frame).core.screen ≡ (served_after (served lane start) (opening_events lane start)).core.screen
      at (inl calm) = absurd (calm.free start delay on)
      at (inr (other, more, within)) =
          let same = one_delay other start frame more delay within.on on in
          ap (λ (s : Served). s.core.screen) within.is ∙ within.screen_is
          ∙ ap (λ (from : ℕ). (served_after (served lane from) (opening_events lane from)).core.screen) same.0

  -- outside of delays nothing is held
  pub nothing_held : (frame : ℕ) → IsOutside lane frame → (served lane frame).core.held ≡ []
  nothing_held frame outside = at (stands_at frame)
    where
      at : Stands frame → (served lane frame).core.held ≡ []
      at (inl calm) = ap (λ (s : Served). s.core.held) calm.is
      at (inr (start, delay, within)) = absurd (outside start delay within.on)

  -- outside of delays the screen is as if nothing were ever put off
  pub shows_undelayed : (frame : ℕ) → IsOutside lane frame → (served lane frame).core.screen ≡ undelayed lane frame
  shows_undelayed frame outside = at (stands_at frame)
    where
      at : Stands frame → (served lane frame).core.screen ≡ undelayed lane frame
      at (inl calm) = ap (λ (s : Served). s.core.screen) calm.is ∙ calm.shows
      at (inr (start, delay, within)) = absurd (outside start delay within.on)

  -- and within one as the events of its first frame leave that
  pub shows_opened : (start frame : ℕ) (delay : Delay) → IsInDelay lane start delay frame → (served lane frame).core.screen ≡ opened lane start
  shows_opened start frame delay on = at (stands_at frame)
    where
      at : Stands frame → (served lane frame).core.screen ≡ opened lane start
      at (inl calm) = absurd (calm.free start delay on)
      at (inr (other, more, within)) =
          let same = one_delay other start frame more delay within.on on in
          ap (λ (s : Served). s.core.screen) within.is ∙ within.shows ∙ ap (opened lane) same.0
