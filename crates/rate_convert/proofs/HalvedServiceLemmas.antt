-- A service whose frames are cut in halves shows the same.
use Rattle.std.proofs.Common.{◌≡◌, ℕ, ◌+◌, ◌*◌, ◌<◌, ◌≤◌, ◌==◌, Bool, true, false, List, [], ◌∷◌, ◌++◌, map, length, length-append, Option, Some, None, refl, sym, ap, ◌∙◌, subst, arith, ◌⊎◌, inl, inr, ⊎_elim, length-append}
use Rattle.std.specs.Prelude.{⊤, if◌then◌else◌}
use Rattle.std.proofs.lemmas.Bool.Decides.{nat_tests}
use Rattle.std.proofs.lemmas.Bool.{cases_lt}
use Rattle.cc_base.specs.Rate.{delay_frames_of}
use Rattle.cc_base.specs.declared.rate.Rate.TheVariants.{F2997, F5994}
use Rattle.dtvcc_codes.specs.declared.commands.Command.{Command}
use Rattle.dtvcc_codes.specs.Reading.{completed, open_after}
use Rattle.dtvcc_screen.specs.declared.clock.Clock.{Clock}
use Rattle.dtvcc_screen.specs.Commands.{on_screen}
use Rattle.dtvcc_screen.specs.Cores.{CoreState, acted_if, after_byte, after_tick, all_acted, arrived, arrived_in, fill, fill_in, go_on, held_more, is_due, released, tenths_of, until_of}
use Rattle.dtvcc_screen.specs.Meaning.{Byte, Event, Served, Tick, on_event, served_after, start}
use Rattle.dtvcc_screen.specs.Screens.{ScreenState}
use Rattle.rate_convert.specs.HalvedServices.{AreGood, Halved, HalvesShowAlike, HasDoubled, IsGood, fast, slow}

abbrev core_of : ScreenState → List ℕ → Option ℕ → List (Option Command) → CoreState
core_of screen bytes until held = record { screen = screen; open_bytes = bytes; until = until; held = held }

abbrev AllGood : List (Option Command) → Type 0
AllGood [] = ⊤
AllGood (completion ∷ more) = IsGood completion × AllGood more

good_push : (held : List (Option Command)) (completion : Option Command) → AllGood held → IsGood completion → AllGood (held ++ completion ∷ [])
good_push [] completion all good = (good, tt)
good_push (first ∷ held) completion all good = (all.0, good_push held completion all.1 good)

-- the ends of delays: at twice the frame, or one before
abbrev AreEnds : Option ℕ → Option ℕ → Type 0
AreEnds None None = ⊤
AreEnds None (Some f) = ⊥
AreEnds (Some e) None = ⊥
AreEnds (Some e) (Some f) = (f ≡ 2 * e) ⊎ (f + 1 ≡ 2 * e)

-- a delay ends after frame n
abbrev EndsBehind : ℕ → Option ℕ → Type 0
EndsBehind n None = ⊤
EndsBehind n (Some e) = n < e

-- the slow service at frame n and the fast one
record AreAlike (n : ℕ) (a b : CoreState) : Type 0 where
  screen : b.screen ≡ a.screen
  open_bytes : b.open_bytes ≡ a.open_bytes
  held : b.held ≡ a.held
  ends : AreEnds a.until b.until
  behind : EndsBehind n a.until
  good : AllGood a.held

-- the clocks of a frame: the whole frame's, and one of its halves'
record AreClocks (n : ℕ) (a b : Clock) : Type 0 where
  ticks : a.ticks ≡ n
  slow : a.rate ≡ F2997
  fast : b.rate ≡ F5994
  half : (b.ticks ≡ 2 * n) ⊎ (b.ticks + 1 ≡ 2 * n)

-- a delay that starts
started_by : (n d e m : ℕ) → (m ≡ 2 * n) ⊎ (m + 1 ≡ 2 * n) → e ≡ 2 * d → (m + e ≡ 2 * (n + d)) ⊎ (m + e + 1 ≡ 2 * (n + d))
started_by n d e m half twice =
    ⊎_elim
    (λ (h : m ≡ 2 * n). let is : m + e ≡ 2 * (n + d) = omega arith in inl is)
    (λ (h : m + 1 ≡ 2 * n). let is : m + e + 1 ≡ 2 * (n + d) = omega arith in inr is)
    half

record AreStarted (n : ℕ) (a b : Option ℕ) : Type 0 where
  ends : AreEnds a b
  behind : EndsBehind n a

started : (n : ℕ) (c d : Clock) (command : Command) (a b : Option ℕ) → AreClocks n c d → HasDoubled (Some command) → AreEnds a b → EndsBehind n a
    → AreStarted n (until_of (tenths_of command) c a) (until_of (tenths_of command) d b)
started n c d command a b clocks doubled ends behind = by_test (tenths_of command == 0) refl
  where
    by_test : (z : Bool) → (tenths_of command == 0) ≡ z
        → AreStarted n (if z then a else Some (c.ticks + delay_frames_of c.rate (tenths_of command)))
        (if z then b else Some (d.ticks + delay_frames_of d.rate (tenths_of command)))
    by_test true z = record { ends = ends; behind = behind }
    by_test false z =
        let some : 0 < tenths_of command = grind (arith, nat_tests) in
        let twice = doubled some in
        let slow : delay_frames_of c.rate (tenths_of command) ≡ delay_frames_of F2997 (tenths_of command) = ap (λ r. delay_frames_of r (tenths_of command)) clocks.slow in
        let fast : delay_frames_of d.rate (tenths_of command) ≡ delay_frames_of F5994 (tenths_of command) = ap (λ r. delay_frames_of r (tenths_of command)) clocks.fast in
        record {
          ends = subst (λ t. (d.ticks + delay_frames_of d.rate (tenths_of command) ≡ 2 * (t + delay_frames_of c.rate (tenths_of command)))
              ⊎ (d.ticks + delay_frames_of d.rate (tenths_of command) + 1 ≡ 2 * (t + delay_frames_of c.rate (tenths_of command)))) (sym clocks.ticks)
              (started_by n (delay_frames_of c.rate (tenths_of command)) (delay_frames_of d.rate (tenths_of command)) d.ticks clocks.half
              (fast ∙ twice.0 ∙ sym (ap (λ k. 2 * k) slow)));
          behind = omega (arith, clocks.ticks, slow, twice.1);
        }

-- a command acts
acted_alike : (n : ℕ) (c d : Clock) (completion : Option Command) (a b : CoreState) → AreClocks n c d → IsGood completion → AreAlike n a b
    → AreAlike n (acted_if completion c a) (acted_if completion d b)
acted_alike n c d None a b clocks good alike = alike
acted_alike n c d (Some command) a b clocks good alike =
    let s = started n c d command a.until b.until clocks good.doubled alike.ends alike.behind in
    record {
      screen = ap (on_screen command) alike.screen;
      open_bytes = alike.open_bytes;
      held = alike.held;
      ends = s.ends;
      behind = s.behind;
      good = alike.good;
    }

-- what was held acts
all_alike : (n : ℕ) (c d : Clock) (held : List (Option Command)) (a b : CoreState) → AreClocks n c d → AllGood held → AreAlike n a b
    → AreAlike n (all_acted held c a) (all_acted held d b)
all_alike n c d [] a b clocks good alike = alike
all_alike n c d (first ∷ rest) a b clocks good alike =
    by_until (acted_if first c a).until (acted_if first d b).until (acted_alike n c d first a b clocks good.0 alike).ends
    (acted_alike n c d first a b clocks good.0 alike)
    (all_alike n c d rest (acted_if first c a) (acted_if first d b) clocks good.1 (acted_alike n c d first a b clocks good.0 alike))
  where
    by_until : (x y : Option ℕ) → AreEnds x y → AreAlike n (acted_if first c a) (acted_if first d b)
        → AreAlike n (all_acted rest c (acted_if first c a)) (all_acted rest d (acted_if first d b))
        → AreAlike n (go_on x rest (acted_if first c a) (all_acted rest c (acted_if first c a))) (go_on y rest (acted_if first d b) (all_acted rest d (acted_if first d b)))
    by_until None None ends next more = more
    by_until None (Some f) ends next more = absurd ends
    by_until (Some e) None ends next more = absurd ends
    by_until (Some e) (Some f) ends next more = record {
      screen = next.screen;
      open_bytes = next.open_bytes;
      held = refl;
      ends = next.ends;
      behind = next.behind;
      good = good.1;
    }

-- what two services hold before a delay of theirs ends
record HoldAlike (a b : CoreState) : Type 0 where
  screen : b.screen ≡ a.screen
  open_bytes : b.open_bytes ≡ a.open_bytes
  held : b.held ≡ a.held
  good : AllGood a.held

-- both delays end
released_alike : (n : ℕ) (c d : Clock) (a b : CoreState) → AreClocks n c d → HoldAlike a b → AreAlike n (released c a) (released d b)
released_alike n c d a b clocks alike =
    subst (λ held. AreAlike n (released c a) (all_acted held d (record b { until = None; held = [] }))) (sym alike.held)
    (all_alike n c d a.held (record a { until = None; held = [] }) (record b { until = None; held = [] }) clocks alike.good
    (record { screen = alike.screen; open_bytes = alike.open_bytes; held = refl; ends = tt; behind = tt; good = tt }))

holding : (n : ℕ) (a b : CoreState) → AreAlike n a b → HoldAlike a b
holding n a b alike = record { screen = alike.screen; open_bytes = alike.open_bytes; held = alike.held; good = alike.good }

-- one more held is no full buffer
one_longer : (held : List (Option Command)) (k : Option Command) → length held + 1 < 128 → (length (held ++ k ∷ []) == 128) ≡ false
one_longer held k few = let e : length (held ++ k ∷ []) ≡ length held + 1 = length-append held (k ∷ []) in grind (arith, nat_tests)

-- what a byte completed arrives
module _ (n : ℕ) (c d : Clock) (k : Option Command) (clocks : AreClocks n c d) (good : IsGood k) where
  plain_arrival : (clock : Clock) (core : CoreState) → arrived k clock core ≡ arrived_in core.until k clock core
  plain_arrival clock core = rw good.no_reset refl

  held_arrival : (e : ℕ) (clock : Clock) (core : CoreState) → arrived_in (Some e) k clock core ≡ held_more k clock core
  held_arrival e clock core = rw good.no_cancel refl

  fill_is : (e : ℕ) (held : List (Option Command)) → fill_in (Some e) k held ≡ length held + 1
  fill_is e held = rw (good.no_reset, good.no_cancel) refl

  still_held : (clock : Clock) (core : CoreState) → length core.held + 1 < 128 → held_more k clock core ≡ record core { held = core.held ++ k ∷ [] }
  still_held clock core few = rw (one_longer core.held k few) refl

  arrived_alike : (a b : CoreState) → AreAlike n a b → fill_in a.until k a.held < 128 → AreAlike n (arrived k c a) (arrived k d b)
  arrived_alike a b alike few =
      subst (λ x. AreAlike n x (arrived k d b)) (sym (plain_arrival c a))
      (subst (λ x. AreAlike n (arrived_in a.until k c a) x) (sym (plain_arrival d b)) (by_until a.until b.until refl refl))
    where
      by_until : (x y : Option ℕ) → a.until ≡ x → b.until ≡ y → AreAlike n (arrived_in x k c a) (arrived_in y k d b)
      by_until None None x y = acted_alike n c d k a b clocks good alike
      by_until None (Some f) x y = let wrong : AreEnds None (Some f) = subst (λ v. AreEnds None v) y (subst (λ u. AreEnds u b.until) x alike.ends) in absurd wrong
      by_until (Some e) None x y = let wrong : AreEnds (Some e) None = subst (λ v. AreEnds (Some e) v) y (subst (λ u. AreEnds u b.until) x alike.ends) in absurd wrong
      by_until (Some e) (Some f) x y =
          let room : length a.held + 1 < 128 = subst (λ m. m < 128) (fill_is e a.held) (subst (λ u. fill_in u k a.held < 128) x few) in
          let too : length b.held + 1 < 128 = subst (λ (h : List (Option Command)). length h + 1 < 128) (sym alike.held) room in
          subst (λ s. AreAlike n s (arrived_in (Some f) k d b)) (sym (held_arrival e c a ∙ still_held c a room))
          (subst (λ s. AreAlike n (record a { held = a.held ++ k ∷ [] }) s) (sym (held_arrival f d b ∙ still_held d b too))
          (record {
            screen = alike.screen;
            open_bytes = alike.open_bytes;
            held = ap (λ (h : List (Option Command)). h ++ k ∷ []) alike.held;
            ends = alike.ends;
            behind = alike.behind;
            good = good_push a.held k alike.good good;
          }))

-- bytes, one after another
abbrev all_bytes : Clock → CoreState → List ℕ → CoreState
all_bytes clock core [] = core
all_bytes clock core (byte ∷ bytes) = all_bytes clock (after_byte byte clock core) bytes

abbrev GoodBytes : Clock → CoreState → List ℕ → Type 0
GoodBytes clock core [] = ⊤
GoodBytes clock core (byte ∷ bytes) = IsGood (completed core.open_bytes byte) × (fill byte core < 128) × GoodBytes clock (after_byte byte clock core) bytes

module _ (n : ℕ) (c d : Clock) (clocks : AreClocks n c d) where
  byte_alike : (byte : ℕ) (a b : CoreState) → AreAlike n a b → IsGood (completed a.open_bytes byte) → fill byte a < 128
      → AreAlike n (after_byte byte c a) (after_byte byte d b)
  byte_alike byte a b alike good few =
      let same : completed b.open_bytes byte ≡ completed a.open_bytes byte = ap (λ o. completed o byte) alike.open_bytes in
      subst (λ k. AreAlike n (after_byte byte c a) (arrived k d (record b { open_bytes = open_after b.open_bytes byte }))) (sym same)
      (arrived_alike n c d (completed a.open_bytes byte) clocks good (record a { open_bytes = open_after a.open_bytes byte }) (record b { open_bytes = open_after b.open_bytes byte })
      (record {
        screen = alike.screen;
        open_bytes = ap (λ o. open_after o byte) alike.open_bytes;
        held = alike.held;
        ends = alike.ends;
        behind = alike.behind;
        good = alike.good;
      })
      few)

  bytes_alike : (bytes : List ℕ) (a b : CoreState) → AreAlike n a b → GoodBytes c a bytes → AreAlike n (all_bytes c a bytes) (all_bytes d b bytes)
  bytes_alike [] a b alike good = alike
  bytes_alike (byte ∷ bytes) a b alike good =
      bytes_alike bytes (after_byte byte c a) (after_byte byte d b) (byte_alike byte a b alike good.0 good.1) good.2

-- what acts leaves the open bytes, and where nothing is held nothing is
acted_held : (k : Option Command) (clock : Clock) (core : CoreState) → (acted_if k clock core).held ≡ core.held
acted_held None clock core = refl
acted_held (Some command) clock core = refl

acted_open : (k : Option Command) (clock : Clock) (core : CoreState) (o : List ℕ)
    → acted_if k clock (record core { open_bytes = o }) ≡ record (acted_if k clock core) { open_bytes = o }
acted_open None clock core o = refl
acted_open (Some command) clock core o = refl

pub all_open : (held : List (Option Command)) (clock : Clock) (core : CoreState) (o : List ℕ)
    → all_acted held clock (record core { open_bytes = o }) ≡ record (all_acted held clock core) { open_bytes = o }
all_open [] clock core o = refl
all_open (first ∷ rest) clock core o =
    ap (λ next. go_on next.until rest next (all_acted rest clock next)) (acted_open first clock core o)
    ∙ by_until (acted_if first clock core).until (all_open rest clock (acted_if first clock core) o)
  where
    by_until : (u : Option ℕ)
        → all_acted rest clock (record (acted_if first clock core) { open_bytes = o }) ≡ record (all_acted rest clock (acted_if first clock core)) { open_bytes = o }
        → go_on u rest (record (acted_if first clock core) { open_bytes = o }) (all_acted rest clock (record (acted_if first clock core) { open_bytes = o }))
        ≡ record (go_on u rest (acted_if first clock core) (all_acted rest clock (acted_if first clock core))) { open_bytes = o }
    by_until None more = more
    by_until (Some e) more = refl

-- one more that is held acts as if it arrived after the others
module _ (n : ℕ) (c d : Clock) (k : Option Command) (clocks : AreClocks n c d) (good : IsGood k) (clock : Clock) where
  abbrev arrives : CoreState → CoreState
  arrives core = arrived_in core.until k clock core

  acted_more : (held : List (Option Command)) (core : CoreState) → core.until ≡ None → core.held ≡ []
      → fill_in (all_acted held clock core).until k (all_acted held clock core).held < 128
      → all_acted (held ++ k ∷ []) clock core ≡ arrives (all_acted held clock core)
  acted_more [] core none nothing few =
      by_until (acted_if k clock core).until ∙ sym (ap (λ u. arrived_in u k clock core) none)
    where
      by_until : (u : Option ℕ) → go_on u [] (acted_if k clock core) (acted_if k clock core) ≡ acted_if k clock core
      by_until None = refl
      by_until (Some e) = ap (λ h. record (acted_if k clock core) { held = h }) (sym (acted_held k clock core ∙ nothing))
  acted_more (first ∷ rest) core none nothing few = by_until (acted_if first clock core).until refl few
      (λ here room. acted_more rest (acted_if first clock core) here (acted_held first clock core ∙ nothing) room)
    where
      by_until : (u : Option ℕ) → (acted_if first clock core).until ≡ u
          → fill_in (go_on u rest (acted_if first clock core) (all_acted rest clock (acted_if first clock core))).until k
          (go_on u rest (acted_if first clock core) (all_acted rest clock (acted_if first clock core))).held < 128
          → ((acted_if first clock core).until ≡ None
          → fill_in (all_acted rest clock (acted_if first clock core)).until k (all_acted rest clock (acted_if first clock core)).held < 128
          → all_acted (rest ++ k ∷ []) clock (acted_if first clock core) ≡ arrives (all_acted rest clock (acted_if first clock core)))
          → go_on u (rest ++ k ∷ []) (acted_if first clock core) (all_acted (rest ++ k ∷ []) clock (acted_if first clock core))
          ≡ arrives (go_on u rest (acted_if first clock core) (all_acted rest clock (acted_if first clock core)))
      by_until None is room more = more is room
      by_until (Some e) is room more =
          let few : length rest + 1 < 128 = subst (λ m. m < 128) (fill_is n c d k clocks good e rest) (subst (λ u. fill_in u k rest < 128) is room) in
          sym (ap (λ u. arrived_in u k clock (record (acted_if first clock core) { held = rest })) is
          ∙ held_arrival n c d k clocks good e clock (record (acted_if first clock core) { held = rest })
          ∙ still_held n c d k clocks good clock (record (acted_if first clock core) { held = rest }) few)

-- the fast service still holds what the slow one has done: its delay ends in the second half of the frame
record IsLate (n : ℕ) (c : Clock) (a b : CoreState) : Type 0 where
  done : a ≡ released c b
  ends : b.until ≡ Some (2 * n)
  good : AllGood b.held

-- both are alike, or the fast one is late
abbrev Follows : ℕ → Clock → CoreState → CoreState → Type 0
Follows n c a b = AreAlike n a b ⊎ IsLate n c a b

same_hold : (b : CoreState) → AllGood b.held → HoldAlike b b
same_hold b good = record { screen = refl; open_bytes = refl; held = refl; good = good }

module _ (n : ℕ) (c d : Clock) (clocks : AreClocks n c d) where
  released_open : (b : CoreState) → (released c b).open_bytes ≡ b.open_bytes
  released_open b = ap (λ (x : CoreState). x.open_bytes) (all_open b.held c (record b { until = None; held = [] }) b.open_bytes)

  -- what arrives is held, and the slow service does it
  held_late : (k : Option Command) (b : CoreState) → IsGood k → b.until ≡ Some (2 * n) → AllGood b.held
      → fill_in (released c b).until k (released c b).held < 128 → Follows n c (arrived k c (released c b)) (arrived k d b)
  held_late k b good ends all few = by_full (length (b.held ++ k ∷ []) == 128) refl
    where
      next : CoreState
      next = record b { held = b.held ++ k ∷ [] }

      done : arrived k c (released c b) ≡ released c (record b { held = b.held ++ k ∷ [] })
      done =
          plain_arrival n c d k clocks good c (released c b)
          ∙ sym (acted_more n c d k clocks good c b.held (record b { until = None; held = [] }) refl refl few)

      holds : arrived k d b ≡ (if length (b.held ++ k ∷ []) == 128 then released d (record b { held = b.held ++ k ∷ [] }) else record b { held = b.held ++ k ∷ [] })
      holds =
          plain_arrival n c d k clocks good d b ∙ ap (λ u. arrived_in u k d b) ends
          ∙ held_arrival n c d k clocks good (2 * n) d b

      by_full : (f : Bool) → (length (b.held ++ k ∷ []) == 128) ≡ f → Follows n c (arrived k c (released c b)) (arrived k d b)
      by_full true full =
          inl (subst (λ x. AreAlike n x (arrived k d b)) (sym done)
          (subst (λ x. AreAlike n (released c (record b { held = b.held ++ k ∷ [] })) x) (sym (holds ∙ rw full refl))
          (released_alike n c d (record b { held = b.held ++ k ∷ [] }) (record b { held = b.held ++ k ∷ [] }) clocks
          (same_hold (record b { held = b.held ++ k ∷ [] }) (good_push b.held k all good)))))
      by_full false full =
          let is : arrived k d b ≡ record b { held = b.held ++ k ∷ [] } = holds ∙ rw full refl in
          inr (record {
            done = done ∙ ap (released c) (sym is);
            ends = ap (λ (x : CoreState). x.until) is ∙ ends;
            good = subst (λ (x : CoreState). AllGood x.held) (sym is) (good_push b.held k all good);
          })

  byte_late : (byte : ℕ) (a b : CoreState) → IsLate n c a b → IsGood (completed a.open_bytes byte) → fill byte a < 128
      → Follows n c (after_byte byte c a) (after_byte byte d b)
  byte_late byte a b late good few =
      let o : a.open_bytes ≡ b.open_bytes = ap (λ (x : CoreState). x.open_bytes) late.done ∙ released_open b in
      let same : completed a.open_bytes byte ≡ completed b.open_bytes byte = ap (λ l. completed l byte) o in
      let opened : record a { open_bytes = open_after a.open_bytes byte } ≡ released c (record b { open_bytes = open_after b.open_bytes byte }) =
      ap (λ l. record a { open_bytes = open_after l byte }) o ∙ ap (λ (x : CoreState). record x { open_bytes = open_after b.open_bytes byte }) late.done
      ∙ sym (all_open b.held c (record b { until = None; held = [] }) (open_after b.open_bytes byte)) in
      let room : fill_in (released c (record b { open_bytes = open_after b.open_bytes byte })).until (completed b.open_bytes byte) (released c (record b { open_bytes = open_after b.open_bytes byte })).held < 128 =
      subst (λ (x : CoreState). fill_in x.until (completed b.open_bytes byte) x.held < 128) opened (subst (λ k. fill_in a.until k a.held < 128) same few) in
      let arrives : after_byte byte c a ≡ arrived (completed b.open_bytes byte) c (released c (record b { open_bytes = open_after b.open_bytes byte })) =
      ap (λ k. arrived k c (record a { open_bytes = open_after a.open_bytes byte })) same ∙ ap (arrived (completed b.open_bytes byte) c) opened in
      subst (λ x. Follows n c x (after_byte byte d b)) (sym arrives)
      (held_late (completed b.open_bytes byte) (record b { open_bytes = open_after b.open_bytes byte }) (subst IsGood same good) late.ends late.good room)

  bytes_follow : (bytes : List ℕ) (a b : CoreState) → Follows n c a b → GoodBytes c a bytes → Follows n c (all_bytes c a bytes) (all_bytes d b bytes)
  bytes_follow [] a b follows good = follows
  bytes_follow (byte ∷ bytes) a b follows good =
      bytes_follow bytes (after_byte byte c a) (after_byte byte d b)
      (⊎_elim
      (λ (alike : AreAlike n a b). inl (byte_alike n c d clocks byte a b alike good.0 good.1))
      (λ (late : IsLate n c a b). byte_late byte a b late good.0 good.1)
      follows)
      good.2

-- a tick where nothing is due, and where a delay is
not_due : (clock : Clock) (core : CoreState) → is_due core.until clock.ticks ≡ false → after_tick clock core ≡ core
not_due clock core is = rw is refl

due : (clock : Clock) (core : CoreState) → is_due core.until clock.ticks ≡ true → after_tick clock core ≡ released clock core
due clock core is = rw is refl

-- the second half of a frame begins
second_half : (n : ℕ) (c d : Clock) (a b : CoreState) → AreClocks n c d → d.ticks ≡ 2 * n → Follows n c a b → AreAlike n a (after_tick d b)
second_half n c d a b clocks at follows =
    ⊎_elim
    (λ (alike : AreAlike n a b). subst (AreAlike n a) (sym (not_due d b (never a.until b.until alike.ends alike.behind))) alike)
    (λ (late : IsLate n c a b).
    let now : is_due b.until d.ticks ≡ true = ap (λ u. is_due u d.ticks) late.ends ∙ ap (λ m. 2 * n == m) at ∙ same_number (2 * n) in
    subst (λ x. AreAlike n x (after_tick d b)) (sym late.done) (subst (AreAlike n (released c b)) (sym (due d b now)) (released_alike n c d b b clocks (same_hold b late.good))))
    follows
  where
    same_number : (m : ℕ) → (m == m) ≡ true
    same_number m = grind (arith, nat_tests)

    never : (x y : Option ℕ) → AreEnds x y → EndsBehind n x → is_due y d.ticks ≡ false
    never None None ends behind = refl
    never None (Some f) ends behind = absurd ends
    never (Some e) None ends behind = absurd ends
    never (Some e) (Some f) ends behind =
        ⊎_elim
        (λ (even : f ≡ 2 * e). let low : d.ticks < f = omega arith in above f low)
        (λ (odd : f + 1 ≡ 2 * e). let low : d.ticks < f = omega arith in above f low)
        ends
      where
        above : (f : ℕ) → d.ticks < f → (f == d.ticks) ≡ false
        above f low = grind (arith, nat_tests)

-- a frame begins, and with it its first half
first_half : (m n : ℕ) (c d : Clock) (a b : CoreState) → m + 1 ≡ n → AreClocks n c d → d.ticks + 1 ≡ 2 * n → AreAlike m a b
    → Follows n c (after_tick c a) (after_tick d b)
first_half m n c d a b next clocks at alike = by_until a.until b.until refl refl
  where
    differs : (x y : ℕ) → x < y → (y == x) ≡ false
    differs x y low = grind (arith, nat_tests)

    equals : (x y : ℕ) → x ≡ y → (y == x) ≡ true
    equals x y is = grind (arith, nat_tests)

    -- in this frame the slow service's delay ends
    ends_now : (f : ℕ) → a.until ≡ Some n → b.until ≡ Some f → (f ≡ 2 * n) ⊎ (f + 1 ≡ 2 * n) → Follows n c (after_tick c a) (after_tick d b)
    ends_now f x y half =
        let now : is_due a.until c.ticks ≡ true = ap (λ u. is_due u c.ticks) x ∙ equals c.ticks n clocks.ticks in
        ⊎_elim
        (λ (even : f ≡ 2 * n).
        let later : is_due b.until d.ticks ≡ false = ap (λ u. is_due u d.ticks) y ∙ differs d.ticks f (omega arith) in
        let ends : b.until ≡ Some (2 * n) = y ∙ ap Some even in
        let done : released c a ≡ released c b =
        ap (λ s. all_acted a.held c (core_of s a.open_bytes None [])) (sym alike.screen)
        ∙ ap (λ o. all_acted a.held c (core_of b.screen o None [])) (sym alike.open_bytes)
        ∙ ap (λ h. all_acted h c (core_of b.screen b.open_bytes None [])) (sym alike.held) in
        subst (λ s. Follows n c s (after_tick d b)) (sym (due c a now)) (subst (λ s. Follows n c (released c a) s) (sym (not_due d b later))
        (inr (record { done = done; ends = ends; good = subst AllGood (sym alike.held) alike.good }))))
        (λ (odd : f + 1 ≡ 2 * n).
        let too : is_due b.until d.ticks ≡ true = ap (λ u. is_due u d.ticks) y ∙ equals d.ticks f (omega arith) in
        subst (λ s. Follows n c s (after_tick d b)) (sym (due c a now)) (subst (λ s. Follows n c (released c a) s) (sym (due d b too))
        (inl (released_alike n c d a b clocks (holding m a b alike)))))
        half

    -- or not yet
    goes_on : (e f : ℕ) → a.until ≡ Some e → b.until ≡ Some f → n < e → (f ≡ 2 * e) ⊎ (f + 1 ≡ 2 * e) → Follows n c (after_tick c a) (after_tick d b)
    goes_on e f x y high half =
        let none : is_due a.until c.ticks ≡ false = ap (λ u. is_due u c.ticks) x ∙ differs c.ticks e (omega (arith, clocks.ticks)) in
        let low : d.ticks < f = ⊎_elim (λ (even : f ≡ 2 * e). let l : d.ticks < f = omega arith in l) (λ (odd : f + 1 ≡ 2 * e). let l : d.ticks < f = omega arith in l) half in
        let too : is_due b.until d.ticks ≡ false = ap (λ u. is_due u d.ticks) y ∙ differs d.ticks f low in
        subst (λ s. Follows n c s (after_tick d b)) (sym (not_due c a none)) (subst (λ s. Follows n c a s) (sym (not_due d b too))
        (inl (record {
          screen = alike.screen;
          open_bytes = alike.open_bytes;
          held = alike.held;
          ends = alike.ends;
          behind = subst (EndsBehind n) (sym x) high;
          good = alike.good;
        })))

    by_until : (x y : Option ℕ) → a.until ≡ x → b.until ≡ y → Follows n c (after_tick c a) (after_tick d b)
    by_until None None x y =
        subst (λ s. Follows n c s (after_tick d b)) (sym (not_due c a (ap (λ u. is_due u c.ticks) x)))
        (subst (λ s. Follows n c a s) (sym (not_due d b (ap (λ u. is_due u d.ticks) y)))
        (inl (record {
          screen = alike.screen;
          open_bytes = alike.open_bytes;
          held = alike.held;
          ends = alike.ends;
          behind = subst (EndsBehind n) (sym x) tt;
          good = alike.good;
        })))
    by_until None (Some f) x y = let wrong : AreEnds None (Some f) = subst (λ v. AreEnds None v) y (subst (λ u. AreEnds u b.until) x alike.ends) in absurd wrong
    by_until (Some e) None x y = let wrong : AreEnds (Some e) None = subst (λ v. AreEnds (Some e) v) y (subst (λ u. AreEnds u b.until) x alike.ends) in absurd wrong
    by_until (Some e) (Some f) x y =
        let ends : AreEnds (Some e) (Some f) = subst (λ v. AreEnds (Some e) v) y (subst (λ u. AreEnds u b.until) x alike.ends) in
        let above : m < e = subst (EndsBehind m) x alike.behind in
        ⊎_elim
        (λ (high : n < e). goes_on e f x y high ends)
        (λ (low : e ≤ n).
        let here : e ≡ n = omega arith in
        ends_now f (x ∙ ap Some here) y (subst (λ k. (f ≡ 2 * k) ⊎ (f + 1 ≡ 2 * k)) here ends))
        (cases_lt n e)

-- events
after_append : (s : Served) (es fs : List Event) → served_after s (es ++ fs) ≡ served_after (served_after s es) fs
after_append s [] fs = refl
after_append s (e ∷ es) fs = after_append (on_event e s) es fs

after_bytes : (clock : Clock) (core : CoreState) (bytes : List ℕ) → served_after (record { clock = clock; core = core }) (map Byte bytes) ≡ record { clock = clock; core = all_bytes clock core bytes }
after_bytes clock core [] = refl
after_bytes clock core (byte ∷ bytes) = after_bytes clock (after_byte byte clock core) bytes

bytes_append : (clock : Clock) (core : CoreState) (one two : List ℕ) → all_bytes clock core (one ++ two) ≡ all_bytes clock (all_bytes clock core one) two
bytes_append clock core [] two = refl
bytes_append clock core (byte ∷ one) two = bytes_append clock (after_byte byte clock core) one two

good_bytes : (clock : Clock) (core : CoreState) (bytes : List ℕ) (rest : List Event) → AreGood (record { clock = clock; core = core }) (map Byte bytes ++ rest)
    → GoodBytes clock core bytes × AreGood (record { clock = clock; core = all_bytes clock core bytes }) rest
good_bytes clock core [] rest good = (tt, good)
good_bytes clock core (byte ∷ bytes) rest good =
    let more = good_bytes clock (after_byte byte clock core) bytes rest good.2 in
    ((good.0, good.1, more.0), more.1)

good_parts : (clock : Clock) (core : CoreState) (one two : List ℕ) → GoodBytes clock core (one ++ two)
    → GoodBytes clock core one × GoodBytes clock (all_bytes clock core one) two
good_parts clock core [] two good = (tt, good)
good_parts clock core (byte ∷ one) two good =
    let more = good_parts clock (after_byte byte clock core) one two good.2 in
    ((good.0, good.1, more.0), more.1)

-- the clocks of a frame and of its halves
abbrev slow_clock : Served → Clock
slow_clock s = record { ticks = s.clock.ticks + 1; rate = F2997 }

abbrev first_clock : Served → Clock
first_clock t = record { ticks = t.clock.ticks + 1; rate = F5994 }

abbrev second_clock : Served → Clock
second_clock t = record { ticks = t.clock.ticks + 1 + 1; rate = F5994 }

-- both services after a frame
abbrev slow_behind : Served → Halved → Served
slow_behind s frame = record {
  clock = slow_clock s;
  core = all_bytes (slow_clock s) (after_tick (slow_clock s) s.core) (frame.one ++ frame.two);
}

abbrev half_behind : Served → Halved → CoreState
half_behind t frame = all_bytes (first_clock t) (after_tick (first_clock t) t.core) frame.one

abbrev fast_behind : Served → Halved → Served
fast_behind t frame = record {
  clock = second_clock t;
  core = all_bytes (second_clock t) (after_tick (second_clock t) (half_behind t frame)) frame.two;
}

slow_step : (s : Served) (frame : Halved) (rest : List Event) → served_after s (Tick F2997 ∷ map Byte (frame.one ++ frame.two) ++ rest) ≡ served_after (slow_behind s frame) rest
slow_step s frame rest =
    after_append (record { clock = slow_clock s; core = after_tick (slow_clock s) s.core }) (map Byte (frame.one ++ frame.two)) rest
    ∙ ap (λ (x : Served). served_after x rest) (after_bytes (slow_clock s) (after_tick (slow_clock s) s.core) (frame.one ++ frame.two))

fast_step : (t : Served) (frame : Halved) (rest : List Event)
    → served_after t (Tick F5994 ∷ map Byte frame.one ++ (Tick F5994 ∷ map Byte frame.two ++ rest)) ≡ served_after (fast_behind t frame) rest
fast_step t frame rest =
    after_append (record { clock = first_clock t; core = after_tick (first_clock t) t.core }) (map Byte frame.one) (Tick F5994 ∷ map Byte frame.two ++ rest)
    ∙ ap (λ (x : Served). served_after x (Tick F5994 ∷ map Byte frame.two ++ rest)) (after_bytes (first_clock t) (after_tick (first_clock t) t.core) frame.one)
    ∙ after_append (record { clock = second_clock t; core = after_tick (second_clock t) (half_behind t frame) }) (map Byte frame.two) rest
    ∙ ap (λ (x : Served). served_after x rest) (after_bytes (second_clock t) (after_tick (second_clock t) (half_behind t frame)) frame.two)

-- after a frame both are alike
module _ (n : ℕ) (s t : Served) (frame : Halved) (at : s.clock.ticks ≡ n) (too : t.clock.ticks ≡ 2 * n) (alike : AreAlike n s.core t.core)
    (good : GoodBytes (slow_clock s) (after_tick (slow_clock s) s.core) (frame.one ++ frame.two)) where
  parts : GoodBytes (slow_clock s) (after_tick (slow_clock s) s.core) frame.one
      × GoodBytes (slow_clock s) (all_bytes (slow_clock s) (after_tick (slow_clock s) s.core) frame.one) frame.two
  parts = good_parts (slow_clock s) (after_tick (slow_clock s) s.core) frame.one frame.two good

  odd : t.clock.ticks + 1 + 1 ≡ 2 * (n + 1)
  odd = omega arith

  in_first : AreClocks (n + 1) (slow_clock s) (first_clock t)
  in_first = record { ticks = omega arith; slow = refl; fast = refl; half = inr odd }

  in_second : AreClocks (n + 1) (slow_clock s) (second_clock t)
  in_second = record { ticks = omega arith; slow = refl; fast = refl; half = inl odd }

  halfway : Follows (n + 1) (slow_clock s) (all_bytes (slow_clock s) (after_tick (slow_clock s) s.core) frame.one) (half_behind t frame)
  halfway =
      bytes_follow (n + 1) (slow_clock s) (first_clock t) in_first frame.one (after_tick (slow_clock s) s.core) (after_tick (first_clock t) t.core)
      (first_half n (n + 1) (slow_clock s) (first_clock t) s.core t.core refl in_first odd alike) parts.0

  frame_alike : AreAlike (n + 1) (slow_behind s frame).core (fast_behind t frame).core
  frame_alike =
      subst (λ (x : CoreState). AreAlike (n + 1) x (fast_behind t frame).core) (sym (bytes_append (slow_clock s) (after_tick (slow_clock s) s.core) frame.one frame.two))
      (bytes_alike (n + 1) (slow_clock s) (second_clock t) in_second frame.two (all_bytes (slow_clock s) (after_tick (slow_clock s) s.core) frame.one)
      (after_tick (second_clock t) (half_behind t frame))
      (second_half (n + 1) (slow_clock s) (second_clock t) (all_bytes (slow_clock s) (after_tick (slow_clock s) s.core) frame.one) (half_behind t frame) in_second odd halfway)
      parts.1)

-- frames, one after another
frames_alike : (n : ℕ) (s t : Served) (frames : List Halved) → s.clock.ticks ≡ n → t.clock.ticks ≡ 2 * n → AreAlike n s.core t.core → AreGood s (slow frames)
    → (served_after t (fast frames)).core.screen ≡ (served_after s (slow frames)).core.screen
frames_alike n s t [] at too alike good = alike.screen
frames_alike n s t (frame ∷ frames) at too alike good =
    let goods = good_bytes (slow_clock s) (after_tick (slow_clock s) s.core) (frame.one ++ frame.two) (slow frames) good in
    ap (λ (x : Served). x.core.screen) (fast_step t frame (fast frames))
    ∙ frames_alike (n + 1) (slow_behind s frame) (fast_behind t frame) frames (omega arith) (odd n s t frame at too alike goods.0)
    (frame_alike n s t frame at too alike goods.0) goods.1
    ∙ sym (ap (λ (x : Served). x.core.screen) (slow_step s frame (slow frames)))

-- from the start on
pub halves_alike : HalvesShowAlike
halves_alike frames good =
    frames_alike 0 start start frames refl refl
    (record { screen = refl; open_bytes = refl; held = refl; ends = tt; behind = tt; good = tt }) good
