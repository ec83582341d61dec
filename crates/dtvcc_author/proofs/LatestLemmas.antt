-- The caption that was loaded last in each window tells the events of a frame: those loaded before it are hidden by then, and
-- those after have none yet.
use Rattle.std.proofs.Common.{get_or, min, ◌≡◌, ◌∙◌, ℕ, suc, zero, ◌+◌, ◌<◌, ◌≤◌, ◌⊎◌, inl, inr, ◌==◌, Bool, true, false, ◌&&◌, ◌||◌, not, List, [], ◌∷◌, ◌++◌, Option, Some, None, refl, sym, ap, subst, arith, length, take, drop, cond, if◌then◌else◌}
use Rattle.std.specs.Prelude.{⊤, IfNone, IfSome, find, option_map, slice_index_or, slice_set}
use Rattle.std.specs.List.{AllByRecursion, flat_map, list_any}
use Rattle.std.proofs.lemmas.Bool.{and_parts, eq-eqb, eqb-true, or_parts}
use Rattle.std.proofs.lemmas.Bool.Decides.{nat_tests}
use Rattle.std.proofs.lemmas.List.{drop_all, drop_more, get_or-set_other, get_or-set_same, take_more, take-append-drop}
use Rattle.std.proofs.lemmas.List.Folds.{list_any-append, list_any_at}
use Rattle.std.proofs.lemmas.List.Concat.{flat_map-append}
use Rattle.cc_base.specs.declared.rate.Rate.{Rate}
use Rattle.cc_base.specs.Options.{passes}
use Rattle.dtvcc_codes.specs.declared.commands.Command.{Command}
use Rattle.dtvcc_codes.specs.declared.commands.Command.TheVariants.{Dlw, Dsw}
use Rattle.dtvcc_codes.specs.Writing.{bytes_of_command}
use Rattle.dtvcc_author.specs.EventBytes.{command_bytes, delay_bytes, events_bytes}
use Rattle.dtvcc_author.specs.FrameEvents.{delay_commands, delayed_at, event_bytes, has_event_at, is_delayed_at, is_hidden_at, is_shown_at, names, windows_byte, windows_command}
use Rattle.dtvcc_author.specs.Kept.{AreKept, Follows, IsSoundCaption}
use Rattle.dtvcc_author.specs.Latest.{AreEventsOf, IsLatestAt, IsQuietUpTo, caption_delay, caption_in, latest_behind, latest_of}
use Rattle.dtvcc_author.specs.declared.caption.Caption.{Caption}
use Rattle.dtvcc_author.specs.declared.frame_events.Delay.{Delay}
use Rattle.dtvcc_author.specs.declared.frame_events.FrameEvents.{FrameEvents}
use Rattle.dtvcc_author.specs.declared.latest.Latest.{Latest}

-- the caption is one of the list
abbrev pub Has : Caption → List Caption → Type 0
Has c [] = ⊥
Has c (x ∷ xs) = (c ≡ x) ⊎ Has c xs

-- what holds of all holds of each
pub all_has : (P : Caption → Type 0) (cs : List Caption) (c : Caption) → AllByRecursion P cs → Has c cs → P c
all_has P [] c all has = absurd has
all_has P (x ∷ xs) c all (inl same) = subst P (sym same) all.0
all_has P (x ∷ xs) c all (inr has) = all_has P xs c all.1 has

-- both parts of what holds of all
all_parts : (P : Caption → Type 0) (xs ys : List Caption) → AllByRecursion P (xs ++ ys) → AllByRecursion P xs × AllByRecursion P ys
all_parts P [] ys all = (tt, all)
all_parts P (x ∷ xs) ys all = let rest = all_parts P xs ys all.1 in ((all.0, rest.0), rest.1)

pub kept_parts : (rate : Rate) (frames : ℕ) (xs ys : List Caption) → AreKept rate frames (xs ++ ys) → AreKept rate frames xs × AreKept rate frames ys
kept_parts rate frames [] ys kept = (tt, kept)
kept_parts rate frames (x ∷ xs) ys kept =
    let rest = kept_parts rate frames xs ys kept.2 in
    let follow = all_parts (Follows x) xs ys kept.1 in
    ((kept.0, follow.0, rest.0), rest.1)

-- each caption is sound
pub kept_sound : (rate : Rate) (frames : ℕ) (cs : List Caption) (c : Caption) → AreKept rate frames cs → Has c cs → IsSoundCaption rate frames c
kept_sound rate frames [] c kept has = absurd has
kept_sound rate frames (x ∷ xs) c kept (inl same) = subst (IsSoundCaption rate frames) (sym same) kept.0
kept_sound rate frames (x ∷ xs) c kept (inr has) = kept_sound rate frames xs c kept.2 has

-- the last caption of a window is one of them, and in the window
pub latest_is : (before : Option Caption) (cs : List Caption) (id : ℕ) (c : Caption) → latest_behind before cs id ≡ Some c
    → (before ≡ Some c) ⊎ (Has c cs × (c.id ≡ id))
latest_is before [] id c is = inl is
latest_is before (x ∷ xs) id c is = at (x.id == id) refl (λ some. latest_is (Some x) xs id c some) (λ some. latest_is before xs id c some)
  where
    found : (x.id == id) ≡ true → (Some x ≡ Some c) ⊎ (Has c xs × (c.id ≡ id)) → (before ≡ Some c) ⊎ (Has c (x ∷ xs) × (c.id ≡ id))
    found test (inl same) =
        let one : c ≡ x = cc in
        let here : x.id ≡ id = eqb-true x.id id test in
        inr (inl one, ap (λ d. d.id) one ∙ here)
    found test (inr rest) = inr (inr rest.0, rest.1)

    kept : (before ≡ Some c) ⊎ (Has c xs × (c.id ≡ id)) → (before ≡ Some c) ⊎ (Has c (x ∷ xs) × (c.id ≡ id))
    kept (inl same) = inl same
    kept (inr rest) = inr (inr rest.0, rest.1)

    at : (b : Bool) → (x.id == id) ≡ b
        → (latest_behind (Some x) xs id ≡ Some c → (Some x ≡ Some c) ⊎ (Has c xs × (c.id ≡ id)))
        → (latest_behind before xs id ≡ Some c → (before ≡ Some c) ⊎ (Has c xs × (c.id ≡ id)))
        → (before ≡ Some c) ⊎ (Has c (x ∷ xs) × (c.id ≡ id))
    at true test here rest = found test (here (rw test at is))
    at false test here rest = kept (rest (rw test at is))

-- the caption is hidden before each of the others in the window is loaded
abbrev Precedes : Option Caption → List Caption → ℕ → Type 0
Precedes None cs id = ⊤
Precedes (Some d) cs id = AllByRecursion (λ (c : Caption). c.id ≡ id → d.hide ≤ c.load) cs

-- a caption precedes those after it
follow_precedes : (c : Caption) (cs : List Caption) (id : ℕ) → c.id ≡ id → AllByRecursion (Follows c) cs → Precedes (Some c) cs id
follow_precedes c [] id is follow = tt
follow_precedes c (x ∷ xs) id is follow = ((λ same. follow.0.vacated (same ∙ sym is)), follow_precedes c xs id is follow.1)

precedes_tail : (found : Option Caption) (x : Caption) (xs : List Caption) (id : ℕ) → Precedes found (x ∷ xs) id → Precedes found xs id
precedes_tail None x xs id precedes = tt
precedes_tail (Some d) x xs id precedes = precedes.1

in_window : (a n p : Bool) → p ≡ false → ((a && true) || n) || p ≡ n || a
in_window true true true e = refl
in_window true true false e = refl
in_window true false true e = refl
in_window true false false e = refl
in_window false true true e = refl
in_window false true false e = refl
in_window false false true e = e
in_window false false false e = refl

elsewhere : (a n p : Bool) → ((a && false) || n) || p ≡ n || p
elsewhere true n p = refl
elsewhere false n p = refl

-- a test that holds of a caption only from after its LOAD up to its HIDE
module _ (rate : Rate) (frames frame : ℕ) (test : Caption → Bool)
    (timely : (c : Caption) → IsSoundCaption rate frames c → test c ≡ true → (c.load < frame) × (frame ≤ c.hide)) where
  -- it fails for a caption that precedes one loaded before the frame
  fails_before : (found : Option Caption) (c : Caption) (cs : List Caption) (id : ℕ) → IfSome found (IsSoundCaption rate frames)
      → Precedes found (c ∷ cs) id → c.id ≡ id → c.load < frame → passes test found ≡ false
  fails_before None c cs id sound precedes is loaded = refl
  fails_before (Some d) c cs id sound precedes is loaded = at (test d) refl
    where
      at : (b : Bool) → test d ≡ b → test d ≡ false
      at false holds = holds
      at true holds =
          let when = timely d sound holds in
          let hidden : d.hide ≤ c.load = precedes.0 is in
          absurd (omega (arith, when.1, loaded, hidden))

  -- of captions loaded before the frame, the last of each window tells
  latest_tells : (found : Option Caption) (cs : List Caption) (id : ℕ) → AreKept rate frames cs
      → AllByRecursion (λ (c : Caption). c.load < frame) cs → IfSome found (IsSoundCaption rate frames) → Precedes found cs id
      → (names test cs id || passes test found) ≡ passes test (latest_behind found cs id)
  latest_tells found [] id kept before sound precedes = refl
  latest_tells found (c ∷ cs) id kept before sound precedes =
      at (c.id == id) refl
      (λ here. latest_tells (Some c) cs id kept.2 before.1 kept.0 (follow_precedes c cs id here kept.1))
      (latest_tells found cs id kept.2 before.1 sound (precedes_tail found c cs id precedes))
    where
      at : (b : Bool) → (c.id == id) ≡ b
          → (c.id ≡ id → (names test cs id || test c) ≡ passes test (latest_behind (Some c) cs id))
          → (names test cs id || passes test found) ≡ passes test (latest_behind found cs id)
          → (((test c && (c.id == id)) || names test cs id) || passes test found)
          ≡ passes test (latest_behind (if c.id == id then Some c else found) cs id)
      at true same last rest =
          let here : c.id ≡ id = eqb-true c.id id same in
          let none = fails_before found c cs id sound precedes here before.0 in
          rw same (in_window (test c) (names test cs id) (passes test found) none ∙ last here)
      at false other last rest =
          rw other (elsewhere (test c) (names test cs id) (passes test found) ∙ rest)

  -- those loaded at the frame or after it have no events yet
  none_yet : (cs : List Caption) (id : ℕ) → AreKept rate frames cs → AllByRecursion (λ (c : Caption). frame ≤ c.load) cs
      → names test cs id ≡ false
  none_yet [] id kept behind = refl
  none_yet (c ∷ cs) id kept behind = at (test c) refl (none_yet cs id kept.2 behind.1)
    where
      at : (b : Bool) → test c ≡ b → names test cs id ≡ false → ((test c && (c.id == id)) || names test cs id) ≡ false
      at false holds rest = rw holds rest
      at true holds rest = absurd (let when = timely c kept.0 holds in omega (arith, when.0, behind.0))

  -- so a window is named exactly where the test holds of its last caption
  pub window_named : (cs : List Caption) (latest : Latest) (id : ℕ) → AreKept rate frames cs → IsLatestAt cs frame latest → id < 8
      → names test cs id ≡ passes test (caption_in latest id)
  window_named cs latest id kept at small =
      let front = take latest.next cs in
      let back = drop latest.next cs in
      let whole : front ++ back ≡ cs = take-append-drop latest.next cs in
      let parts = kept_parts rate frames front back (subst (AreKept rate frames) (sym whole) kept) in
      let told = latest_tells None front id parts.0 at.before tt tt in
      let none = none_yet back id parts.1 at.behind in
      ap (λ l. names test l id) (sym whole)
      ∙ list_any-append (λ (c : Caption). test c && (c.id == id)) front back
      ∙ ap (λ b. names test front id || b) none
      ∙ told ∙ ap (passes test) (sym (at.windows id small))

-- where some caption passes the test, its window is named
pub some_named : (rate : Rate) (frames : ℕ) (test : Caption → Bool) (cs : List Caption) → AreKept rate frames cs → list_any test cs ≡ true
    → (id : ℕ) × (id < 8) × (names test cs id ≡ true)
some_named rate frames test [] kept some = cc
some_named rate frames test (c ∷ cs) kept some = at (test c) refl (λ rest. some_named rate frames test cs kept.2 rest)
  where
    later : (id : ℕ) × (id < 8) × (names test cs id ≡ true) → (id : ℕ) × (id < 8) × (names test (c ∷ cs) id ≡ true)
    later found = (found.0, found.1, rw found.2 (or_yes (test c && (c.id == found.0))))
      where
        or_yes : (b : Bool) → b || true ≡ true
        or_yes true = refl
        or_yes false = refl

    at : (b : Bool) → test c ≡ b → (list_any test cs ≡ true → (id : ℕ) × (id < 8) × (names test cs id ≡ true))
        → (id : ℕ) × (id < 8) × (names test (c ∷ cs) id ≡ true)
    at true holds rest =
        let same : (c.id == c.id) ≡ true = eq-eqb c.id c.id refl in
        (c.id, kept.0.window, rw (holds, same) refl)
    at false holds rest = later (rest (rw holds at some))

-- where none does, no window is
pub none_named : (test : Caption → Bool) (cs : List Caption) → list_any test cs ≡ false → (id : ℕ) → names test cs id ≡ false
none_named test [] none id = refl
none_named test (c ∷ cs) none id = at (test c) refl (λ rest. none_named test cs rest id)
  where
    at : (b : Bool) → test c ≡ b → (list_any test cs ≡ false → names test cs id ≡ false)
        → ((test c && (c.id == id)) || names test cs id) ≡ false
    at true holds rest = let e = rw holds at none in cc
    at false holds rest = rw holds (rest (rw holds at none))

-- a byte of windows that names one isn't 0
byte_some : (named : ℕ → Bool) (id : ℕ) → id < 8 → named id ≡ true → (windows_byte named == 0) ≡ false
byte_some named zero small is = rw is (grind (arith, nat_tests))
byte_some named (suc zero) small is = rw is (grind (arith, nat_tests))
byte_some named (suc (suc zero)) small is = rw is (grind (arith, nat_tests))
byte_some named (suc (suc (suc zero))) small is = rw is (grind (arith, nat_tests))
byte_some named (suc (suc (suc (suc zero)))) small is = rw is (grind (arith, nat_tests))
byte_some named (suc (suc (suc (suc (suc zero))))) small is = rw is (grind (arith, nat_tests))
byte_some named (suc (suc (suc (suc (suc (suc zero)))))) small is = rw is (grind (arith, nat_tests))
byte_some named (suc (suc (suc (suc (suc (suc (suc zero))))))) small is = rw is (grind (arith, nat_tests))
byte_some named (suc (suc (suc (suc (suc (suc (suc (suc n)))))))) small is = absurd (omega arith)

-- one that names none is
byte_none : (named : ℕ → Bool) → ((id : ℕ) → named id ≡ false) → windows_byte named ≡ 0
byte_none named none = rw (none 0, none 1, none 2, none 3, none 4, none 5, none 6, none 7) refl

-- what the tests of a frame hold of has been loaded, and isn't hidden before the frame
hidden_timely : (rate : Rate) (frames frame : ℕ) (c : Caption) → IsSoundCaption rate frames c → is_hidden_at frame c ≡ true
    → (c.load < frame) × (frame ≤ c.hide)
hidden_timely rate frames frame c sound test =
    let is : c.hide ≡ frame = eqb-true c.hide frame test in
    (omega (arith, sound.loaded, sound.after, sound.hidden), omega arith)

starts_timely : (rate : Rate) (frames frame : ℕ) (c : Caption) → IsSoundCaption rate frames c → (c.starts == frame) ≡ true
    → (c.load < frame) × (frame ≤ c.hide)
starts_timely rate frames frame c sound test =
    let is : c.starts ≡ frame = eqb-true c.starts frame test in
    (omega (arith, sound.loaded), omega (arith, sound.after, sound.hidden))

-- so the windows of each test are named by the last captions
module _ (rate : Rate) (frames frame : ℕ) (cs : List Caption) (latest : Latest) (kept : AreKept rate frames cs) (is : IsLatestAt cs frame latest) where
  pub hidden_named : (id : ℕ) → id < 8 → names (is_hidden_at frame) cs id ≡ passes (is_hidden_at frame) (caption_in latest id)
  hidden_named id small = window_named rate frames frame (is_hidden_at frame) (hidden_timely rate frames frame) cs latest id kept is small

  pub shown_named : (id : ℕ) → id < 8 → names (is_shown_at frame) cs id ≡ passes (is_shown_at frame) (caption_in latest id)
  shown_named id small =
      window_named rate frames frame (is_shown_at frame)
      (λ c sound test. starts_timely rate frames frame c sound (and_parts (c.tenths == 0) (c.starts == frame) test).1) cs latest id kept is small

  pub delayed_named : (id : ℕ) → id < 8 → names (is_delayed_at frame) cs id ≡ passes (is_delayed_at frame) (caption_in latest id)
  delayed_named id small =
      window_named rate frames frame (is_delayed_at frame)
      (λ c sound test. starts_timely rate frames frame c sound (and_parts (not (c.tenths == 0)) (c.starts == frame) test).1) cs latest id kept is small

-- a byte of windows goes by which of the eight are named
pub byte_same : (a b : ℕ → Bool) → ((id : ℕ) → id < 8 → a id ≡ b id) → windows_byte a ≡ windows_byte b
byte_same a b same =
    rw (
      same 0 (omega arith),
      same 1 (omega arith),
      same 2 (omega arith),
      same 3 (omega arith),
      same 4 (omega arith),
      same 5 (omega arith),
      same 6 (omega arith),
      same 7 (omega arith),
    ) refl

-- the bytes of a command for windows
command_is : (rate : Rate) (frames : ℕ) (test : Caption → Bool) (cs : List Caption) → AreKept rate frames cs → (command : ℕ → Command) (code : ℕ)
    → ((windows : ℕ) → bytes_of_command (command windows) ≡ code ∷ windows ∷ [])
    → flat_map bytes_of_command (windows_command command test cs) ≡ command_bytes code (windows_byte (names test cs))
command_is rate frames test cs kept command code spells = at (list_any test cs) refl
  where
    at : (b : Bool) → list_any test cs ≡ b
        → flat_map bytes_of_command (if b then command (windows_byte (names test cs)) ∷ [] else [])
        ≡ command_bytes code (windows_byte (names test cs))
    at true some =
        let found = some_named rate frames test cs kept some in
        let set = byte_some (names test cs) found.0 found.1 found.2 in
        rw (set, spells (windows_byte (names test cs))) refl
    at false none =
        let zeros = byte_none (names test cs) (none_named test cs none) in
        rw zeros refl

-- the bytes of a delay
pub delays_written : (found : Option Caption) → flat_map bytes_of_command (delay_commands found) ≡ delay_bytes (option_map caption_delay found)
unfolding bytes_of_command
delays_written None = refl
delays_written (Some c) = refl

dlw_written : (windows : ℕ) → bytes_of_command (Dlw windows) ≡ 0x8C ∷ windows ∷ []
unfolding bytes_of_command
dlw_written windows = refl

dsw_written : (windows : ℕ) → bytes_of_command (Dsw windows) ≡ 0x89 ∷ windows ∷ []
unfolding bytes_of_command
dsw_written windows = refl

-- the bytes of the events of a frame
pub events_exact : (rate : Rate) (frames frame : ℕ) (cs : List Caption) (events : FrameEvents) → AreKept rate frames cs → AreEventsOf frame cs events
    → events_bytes events ≡ event_bytes frame cs
events_exact rate frames frame cs events kept are =
    let hides = command_is rate frames (is_hidden_at frame) cs kept Dlw 0x8C dlw_written in
    let shows = command_is rate frames (is_shown_at frame) cs kept Dsw 0x89 dsw_written in
    let delays = delays_written (delayed_at frame cs) in
    let hide_commands = windows_command Dlw (is_hidden_at frame) cs in
    let show_commands = windows_command Dsw (is_shown_at frame) cs in
    let all = flat_map-append bytes_of_command (hide_commands ++ show_commands) (delay_commands (delayed_at frame cs)) in
    let front = flat_map-append bytes_of_command hide_commands show_commands in
    rw (are.hidden, are.shown, are.delay) (sym (all ∙ joined front hides shows delays))
  where
    joined : {a b c d e f g : List ℕ} → g ≡ a ++ c → a ≡ b → c ≡ d → e ≡ f → g ++ e ≡ (b ++ d) ++ f
    joined o p q r = cc

-- the caption whose delay starts in a frame is the only one
pub find_delayed : (rate : Rate) (frames frame : ℕ) (cs : List Caption) (c : Caption) → AreKept rate frames cs → Has c cs
    → is_delayed_at frame c ≡ true → delayed_at frame cs ≡ Some c
find_delayed rate frames frame [] c kept has holds = absurd has
find_delayed rate frames frame (x ∷ xs) c kept (inl same) holds =
    let here : is_delayed_at frame x ≡ true = subst (λ d. is_delayed_at frame d ≡ true) same holds in
    rw here (ap Some (sym same))
find_delayed rate frames frame (x ∷ xs) c kept (inr has) holds =
    at (is_delayed_at frame x) refl (find_delayed rate frames frame xs c kept.2 has holds)
  where
    delay_starts : (d : Caption) → is_delayed_at frame d ≡ true → (0 < d.tenths) × (d.starts ≡ frame)
    delay_starts d test =
        let parts = and_parts (not (d.tenths == 0)) (d.starts == frame) test in
        let some = parts.0 in
        (grind (arith, nat_tests), eqb-true d.starts frame parts.1)

    at : (b : Bool) → is_delayed_at frame x ≡ b → delayed_at frame xs ≡ Some c
        → cond b (Some x) (delayed_at frame xs) ≡ Some c
    at false fails rest = rest
    at true passed rest =
        let mine = delay_starts c holds in
        let other = delay_starts x passed in
        let follows = all_has (Follows x) xs c kept.1 has in
        absurd (follows.apart other.0 mine.0 (other.1 ∙ sym mine.1))

find_none : (test : Caption → Bool) (cs : List Caption) → list_any test cs ≡ false → find test cs ≡ None
find_none test [] none = refl
find_none test (c ∷ cs) none = at (test c) refl (λ rest. find_none test cs rest)
  where
    at : (b : Bool) → test c ≡ b → (list_any test cs ≡ false → find test cs ≡ None) → cond b (Some c) (find test cs) ≡ None
    at true holds rest = let e = rw holds at none in cc
    at false holds rest = rest (rw holds at none)

module _ (rate : Rate) (frames frame : ℕ) (cs : List Caption) (latest : Latest) (kept : AreKept rate frames cs) (is : IsLatestAt cs frame latest) where
  -- the delay of a window's last caption, where it starts in the frame, is the one that starts there
  pub delay_found : (delay : Delay) (id : ℕ) (c : Caption) → caption_in latest id ≡ Some c → is_delayed_at frame c ≡ true → id < 8
      → (c.id ≡ id → delay ≡ caption_delay c) → Some delay ≡ option_map caption_delay (delayed_at frame cs)
  delay_found delay id c there holds small same = from (latest_is None (take latest.next cs) id c (sym (is.windows id small) ∙ there))
    where
      more : (xs ys : List Caption) → Has c xs → Has c (xs ++ ys)
      more [] ys has = absurd has
      more (x ∷ xs) ys (inl one) = inl one
      more (x ∷ xs) ys (inr has) = inr (more xs ys has)

      from : (None ≡ Some c) ⊎ (Has c (take latest.next cs) × (c.id ≡ id)) → Some delay ≡ option_map caption_delay (delayed_at frame cs)
      from (inl none) = cc
      from (inr (has, in_it)) =
          let whole : take latest.next cs ++ drop latest.next cs ≡ cs = take-append-drop latest.next cs in
          let one : Has c cs = subst (Has c) whole (more (take latest.next cs) (drop latest.next cs) has) in
          let found = find_delayed rate frames frame cs c kept one holds in
          rw found (ap Some (same in_it))

  -- where no last caption's delay starts in the frame, none does
  pub delay_none : ((id : ℕ) → id < 8 → passes (is_delayed_at frame) (caption_in latest id) ≡ false)
      → None ≡ option_map caption_delay (delayed_at frame cs)
  delay_none fails = at (list_any (is_delayed_at frame) cs) refl
    where
      at : (b : Bool) → list_any (is_delayed_at frame) cs ≡ b → None ≡ option_map caption_delay (delayed_at frame cs)
      at false none = let found = find_none (is_delayed_at frame) cs none in rw found refl
      at true some =
          let found = some_named rate frames (is_delayed_at frame) cs kept some in
          let told = delayed_named rate frames frame cs latest kept is found.0 found.1 in
          let wrong : true ≡ false = sym found.2 ∙ told ∙ fails found.0 found.1 in
          cc

-- a caption without an event in the frame fails each of its tests
record IsQuiet (frame : ℕ) (found : Option Caption) : Type 0 where
  pub hidden : passes (is_hidden_at frame) found ≡ false
  pub shown : passes (is_shown_at frame) found ≡ false
  pub delayed : passes (is_delayed_at frame) found ≡ false

quiet_is : (frame : ℕ) (found : Option Caption) → passes (has_event_at frame) found ≡ false → IsQuiet frame found
quiet_is frame None none = record { hidden = refl; shown = refl; delayed = refl }
quiet_is frame (Some c) none =
    let parts = or_parts (c.hide == frame) (c.starts == frame) none in
    record {
      hidden = parts.0;
      shown = rw parts.1 (fails (c.tenths == 0));
      delayed = rw parts.1 (fails (not (c.tenths == 0)));
    }
  where
    fails : (b : Bool) → (b && false) ≡ false
    fails true = refl
    fails false = refl

-- where the last caption of no window has an event in the frame, the frame has none
pub quiet_events : (rate : Rate) (frames frame : ℕ) (cs : List Caption) (latest : Latest) → AreKept rate frames cs → IsLatestAt cs frame latest
    → length latest.windows ≡ 8 → list_any (passes (has_event_at frame)) latest.windows ≡ false
    → AreEventsOf frame cs (record { hidden = 0; shown = 0; delay = None })
quiet_events rate frames frame cs latest kept is eight none = record {
  hidden = sym (byte_same (names (is_hidden_at frame) cs) (λ id. false)
      (λ id small. hidden_named rate frames frame cs latest kept is id small ∙ (quiet id small).hidden));
  shown = sym (byte_same (names (is_shown_at frame) cs) (λ id. false)
      (λ id small. shown_named rate frames frame cs latest kept is id small ∙ (quiet id small).shown));
  delay = delay_none rate frames frame cs latest kept is (λ id small. (quiet id small).delayed);
}
  where
    at : (id : ℕ) → id < 8 → (b : Bool) → passes (has_event_at frame) (caption_in latest id) ≡ b
        → passes (has_event_at frame) (caption_in latest id) ≡ false
    at id small false is_false = is_false
    at id small true is_true =
        let some = list_any_at (passes (has_event_at frame)) latest.windows id None (omega arith) is_true in
        let wrong : true ≡ false = sym some ∙ none in
        cc

    quiet : (id : ℕ) → id < 8 → IsQuiet frame (caption_in latest id)
    quiet id small = quiet_is frame (caption_in latest id) (at id small (passes (has_event_at frame) (caption_in latest id)) refl)

-- some captions are passed, all of those after the frame's beginning not
pub record IsPassing (cs : List Caption) (frame : ℕ) (latest : Latest) : Type 0 where
  pub within : latest.next ≤ length cs
  pub before : AllByRecursion (λ (c : Caption). c.load < frame) (take latest.next cs)
  pub windows : (id : ℕ) → id < 8 → caption_in latest id ≡ latest_of (take latest.next cs) id
  pub quiet : IsQuietUpTo latest.windows frame latest.quiet

-- those passed before an earlier frame are passed
pub passing_start : (cs : List Caption) (from frame : ℕ) (latest : Latest) → from ≤ frame → IsLatestAt cs from latest → IsPassing cs frame latest
passing_start cs from frame latest low is = record {
  within = is.within;
  before = before_later (take latest.next cs) is.before;
  windows = is.windows;
  quiet = λ other later to. is.quiet other (omega (arith, low, later)) to;
}
  where
    before_later : (xs : List Caption) → AllByRecursion (λ (c : Caption). c.load < from) xs → AllByRecursion (λ (c : Caption). c.load < frame) xs
    before_later [] all = tt
    before_later (x ∷ xs) all = (omega (arith, low, all.0), before_later xs all.1)

-- with one more caption, that is the last in its window
latest_push : (before : Option Caption) (cs : List Caption) (c : Caption) (id : ℕ)
    → latest_behind before (cs ++ c ∷ []) id ≡ (if c.id == id then Some c else latest_behind before cs id)
latest_push before [] c id = refl
latest_push before (x ∷ xs) c id = latest_push (if x.id == id then Some x else before) xs c id

all_push : (P : Caption → Type 0) (cs : List Caption) (c : Caption) → AllByRecursion P cs → P c → AllByRecursion P (cs ++ c ∷ [])
all_push P [] c all here = (here, tt)
all_push P (x ∷ xs) c all here = (all.0, all_push P xs c all.1 here)

-- a caption has no event before what shows it is sent
no_event_before : (frame : ℕ) (c : Caption) → frame < c.starts → c.starts < c.hide → has_event_at frame c ≡ false
no_event_before frame c before hidden = grind (arith, nat_tests)

-- a caption without an event takes the place of another
set_quiet : (frame : ℕ) (windows : List (Option Caption)) (id : ℕ) (c : Caption) → list_any (passes (has_event_at frame)) windows ≡ false
    → has_event_at frame c ≡ false → list_any (passes (has_event_at frame)) (slice_set windows id (Some c)) ≡ false
set_quiet frame [] id c none here = refl
set_quiet frame (w ∷ windows) zero c none here =
    let parts = or_parts (passes (has_event_at frame) w) (list_any (passes (has_event_at frame)) windows) none in
    rw here parts.1
set_quiet frame (w ∷ windows) (suc id) c none here =
    let parts = or_parts (passes (has_event_at frame) w) (list_any (passes (has_event_at frame)) windows) none in
    rw parts.0 (set_quiet frame windows id c parts.1 here)

-- one more window without an event
pub quiet_more : (frame index : ℕ) (windows : List (Option Caption)) → index < length windows
    → list_any (passes (has_event_at frame)) (take index windows) ≡ false → passes (has_event_at frame) (get_or windows index None) ≡ false
    → list_any (passes (has_event_at frame)) (take (index + 1) windows) ≡ false
quiet_more frame index windows within none here =
    ap (list_any (passes (has_event_at frame))) (take_more windows index None within)
    ∙ list_any-append (passes (has_event_at frame)) (take index windows) (get_or windows index None ∷ [])
    ∙ rw (none, here) refl

-- at a frame, with other frames that have no event
pub at_quiet : (cs : List Caption) (frame quiet : ℕ) (latest : Latest) → IsLatestAt cs frame latest → IsQuietUpTo latest.windows frame quiet
    → IsLatestAt cs frame (record latest { quiet = quiet })
at_quiet cs frame quiet latest is none = record {
  within = is.within;
  before = is.before;
  behind = is.behind;
  windows = is.windows;
  quiet = none;
}

-- one more caption is passed
pub passing_next : (cs : List Caption) (frame : ℕ) (latest : Latest) (c : Caption) → length latest.windows ≡ 8 → IsPassing cs frame latest
    → latest.next < length cs → c ≡ get_or cs latest.next c → c.load < frame → c.id < 8 → c.starts < c.hide
    → IsPassing cs frame (record { next = latest.next + 1; quiet = min latest.quiet c.starts; windows = slice_set latest.windows c.id (Some c) })
passing_next cs frame latest c eight passing within is loaded small hidden =
    let more : take (latest.next + 1) cs ≡ take latest.next cs ++ c ∷ [] =
    take_more cs latest.next c within ∙ ap (λ d. take latest.next cs ++ d ∷ []) (sym is) in
    record {
      within = omega arith;
      before = subst (AllByRecursion (λ (d : Caption). d.load < frame)) (sym more)
          (all_push (λ (d : Caption). d.load < frame) (take latest.next cs) c passing.before loaded);
      windows = λ id low. window id low ∙ sym (ap (λ l. latest_of l id) more ∙ latest_push None (take latest.next cs) c id);
      quiet = λ other from to.
          set_quiet other latest.windows c.id c (passing.quiet other from (omega arith)) (no_event_before other c (omega arith) hidden);
    }
  where
    here : (id : ℕ) → id < 8 → (b : Bool) → (c.id == id) ≡ b
        → slice_index_or (slice_set latest.windows c.id (Some c)) id None ≡ (if b then Some c else latest_of (take latest.next cs) id)
    here id low true same =
        let one : c.id ≡ id = eqb-true c.id id same in
        subst (λ k. slice_index_or (slice_set latest.windows c.id (Some c)) k None ≡ Some c) one
        (get_or-set_same latest.windows c.id (Some c) None (omega arith))
    here id low false other =
        get_or-set_other latest.windows c.id id (Some c) None (λ e. let same = eq-eqb c.id id (sym e) in cc) ∙ passing.windows id low

    window : (id : ℕ) → id < 8
        → slice_index_or (slice_set latest.windows c.id (Some c)) id None ≡ (if c.id == id then Some c else latest_of (take latest.next cs) id)
    window id low = here id low (c.id == id) refl

-- those after a caption are loaded no earlier
loads_behind : (frame : ℕ) (c : Caption) (cs : List Caption) → frame ≤ c.load → AllByRecursion (Follows c) cs
    → AllByRecursion (λ (d : Caption). frame ≤ d.load) cs
loads_behind frame c [] low follow = tt
loads_behind frame c (x ∷ xs) low follow = (omega (arith, low, follow.0.in_order), loads_behind frame c xs low follow.1)

-- all that are loaded before the frame are passed where none is left, or the next one isn't loaded before it
pub passed_all : (cs : List Caption) (frame : ℕ) (latest : Latest) → IsPassing cs frame latest → length cs ≤ latest.next → IsLatestAt cs frame latest
passed_all cs frame latest passing end = record {
  within = passing.within;
  before = passing.before;
  behind = subst (AllByRecursion (λ (c : Caption). frame ≤ c.load)) (sym (drop_all latest.next cs end)) tt;
  windows = passing.windows;
  quiet = passing.quiet;
}

pub passed_up_to : (rate : Rate) (frames : ℕ) (cs : List Caption) (frame : ℕ) (latest : Latest) (c : Caption) → AreKept rate frames cs
    → IsPassing cs frame latest → latest.next < length cs → c ≡ get_or cs latest.next c → frame ≤ c.load → IsLatestAt cs frame latest
passed_up_to rate frames cs frame latest c kept passing within is later =
    let rest : drop latest.next cs ≡ c ∷ drop (latest.next + 1) cs =
    drop_more cs latest.next c within ∙ ap (λ d. d ∷ drop (latest.next + 1) cs) (sym is) in
    let parts = kept_parts rate frames (take latest.next cs) (drop latest.next cs)
    (subst (AreKept rate frames) (sym (take-append-drop latest.next cs)) kept) in
    let behind : AreKept rate frames (c ∷ drop (latest.next + 1) cs) = subst (AreKept rate frames) rest parts.1 in
    record {
      within = passing.within;
      before = passing.before;
      behind = subst (AllByRecursion (λ (d : Caption). frame ≤ d.load)) (sym rest)
          (later, loads_behind frame c (drop (latest.next + 1) cs) later behind.1);
      windows = passing.windows;
      quiet = passing.quiet;
    }

all_get : (P : Caption → Type 0) (cs : List Caption) (k : ℕ) (d : Caption) → AllByRecursion P cs → k < length cs → P (get_or cs k d)
all_get P [] k d all within = absurd (omega arith)
all_get P (x ∷ xs) zero d all within = all.0
all_get P (x ∷ xs) (suc k) d all within = all_get P xs k d all.1 (omega arith)

kept_all : (rate : Rate) (frames : ℕ) (cs : List Caption) → AreKept rate frames cs → AllByRecursion (IsSoundCaption rate frames) cs
kept_all rate frames [] kept = tt
kept_all rate frames (c ∷ cs) kept = (kept.0, kept_all rate frames cs kept.2)

-- a caption that is read is sound
pub kept_at : (rate : Rate) (frames : ℕ) (cs : List Caption) (k : ℕ) (c : Caption) → AreKept rate frames cs → k < length cs → c ≡ get_or cs k c
    → IsSoundCaption rate frames c
kept_at rate frames cs k c kept within is =
    subst (IsSoundCaption rate frames) (sym is) (all_get (IsSoundCaption rate frames) cs k c (kept_all rate frames cs kept) within)

-- what is found of a delay in the windows is the delay that starts in the frame
pub delay_is : (rate : Rate) (frames frame : ℕ) (cs : List Caption) (latest : Latest) → AreKept rate frames cs → IsLatestAt cs frame latest → (result : Option Delay)
    → IfSome result (λ delay. (id : ℕ) × ((c : Caption) × (caption_in latest id ≡ Some c) × (is_delayed_at frame c ≡ true) × (id < 8) × (c.id ≡ id → delay ≡ caption_delay c)))
    → IfNone result ((id : ℕ) → id < 8 → passes (is_delayed_at frame) (caption_in latest id) ≡ false)
    → result ≡ option_map caption_delay (delayed_at frame cs)
delay_is rate frames frame cs latest kept is None some none = delay_none rate frames frame cs latest kept is none
delay_is rate frames frame cs latest kept is (Some delay) (id, (c, there, holds, small, same)) none =
    delay_found rate frames frame cs latest kept is delay id c there holds small same
