-- The window of an id before each frame, as if nothing were ever put off and nothing were heard of the frames before one: what its
-- caption has loaded so far, then the whole of it, shown, and otherwise none; and none for a caption whose DefineWindow isn't heard.
use Rattle.std.proofs.Common.{◌≡◌, ◌≢◌, ◌∙◌, ℕ, zero, suc, ◌<◌, ◌≤◌, nat_lt, ◌⊎◌, inl, inr, ◌||◌, Bool, true, false, if◌then◌else◌, List, [], ◌∷◌, Option, Some, None, refl, sym, ap, subst, arith}
use Rattle.std.specs.Prelude.{option_map}
use Rattle.std.proofs.lemmas.Bool.{cases_lt, eq-eqb, eqb-true}
use Rattle.std.proofs.lemmas.Bool.Decides.{nat_tests}
use Rattle.cc_base.specs.declared.rate.Rate.{Rate}
use Rattle.std.specs.List.{AllByRecursion, list_any}
use Rattle.dtvcc_codes.specs.declared.commands.Command.{Command}
use Rattle.dtvcc_codes.specs.declared.commands.Command.TheVariants.{Dlw, Dsw}
use Rattle.dtvcc_windows.specs.Windows.{WindowState, with_visibility}
use Rattle.dtvcc_screen.specs.Commands.{current_without}
use Rattle.dtvcc_screen.specs.Screens.{ScreenState, empty_screen}
use Rattle.dtvcc_author.specs.declared.caption.Caption.{Caption}
use Rattle.dtvcc_author.specs.FrameEvents.{delayed_at, is_hidden_at, is_shown_at, names, windows_byte, windows_command}
use Rattle.dtvcc_author.specs.Kept.{AreKept, IsSoundCaption}
use Rattle.windows_shown.proofs.CaptionLoads.{AreInOrder, Among, CaptionLoad, IsOrdered, IsTextOf, all_edits, before, captions, in_frame, loads_act, own_edits}
use Rattle.windows_shown.proofs.EditLemmas.{all_frames, edits_none, edits_own, own_early, own_late, own_more}
use Rattle.windows_shown.proofs.EventLemmas.{acted_by, delay_current, delay_shows, delay_windows, hidden_current, hidden_windows, if_hidden, if_shown, shown_current, shown_either, shown_neither, shown_nothing, shown_windows}
use Rattle.windows_shown.proofs.HeardLemmas.{IsHeardCurrent, frame_heard, heard_edits, heard_map, heard_none, if_heard, is_heard, is_lost}
use Rattle.windows_shown.proofs.LoadLemmas.{Unfinished}
use Rattle.windows_shown.proofs.MemberLemmas.{Order, delay_holds, delay_names, delay_says, delayed_is, delayed_names, names_it, names_none, order_of, ordered, shown_holds, shown_says, sound_of}

-- what a caption's commands make of its window, and that once it is shown
abbrev pub whole : CaptionLoad → Option WindowState
whole g = own_edits all_frames g None

abbrev pub shown_whole : CaptionLoad → Option WindowState
shown_whole g = option_map (with_visibility true) (whole g)

-- the screen after the events of a frame that come before its delay, and after the frame
abbrev pub opening : ℕ → List CaptionLoad → ScreenState → ScreenState
opening frame gs s = acted_by (windows_command Dsw (is_shown_at frame) (captions gs)) (acted_by (windows_command Dlw (is_hidden_at frame) (captions gs)) s)

abbrev pub frame_acts : ℕ → List CaptionLoad → ScreenState → ScreenState
frame_acts frame gs s = loads_act frame gs (delay_shows (delayed_at frame (captions gs)) (opening frame gs s))

-- the screen before a frame, where nothing is heard of the frames before one
abbrev pub screen_from : ℕ → List CaptionLoad → ℕ → ScreenState
screen_from since gs zero = empty_screen
screen_from since gs (suc frame) = if nat_lt frame since then empty_screen else frame_acts frame gs (screen_from since gs frame)

-- which is empty up to there
pub empty_until : (since : ℕ) (gs : List CaptionLoad) (frame : ℕ) → frame ≤ since → screen_from since gs frame ≡ empty_screen
empty_until since gs zero low = refl
empty_until since gs (suc frame) low = let test : nat_lt frame since ≡ true = grind (arith, nat_tests) in rw test refl

-- the window before a frame, by the captions; a caption is hidden in the frame of its HIDE
pub record IsWindow (since : ℕ) (gs : List CaptionLoad) (id frame : ℕ) (w : Option WindowState) : Type 0 where
  pub loading : (g : CaptionLoad) → Among g gs → g.caption.id ≡ id → g.caption.load < frame → frame ≤ g.caption.starts
      → w ≡ if_heard since g (own_edits (before frame) g None)
  pub showing : (g : CaptionLoad) → Among g gs → g.caption.id ≡ id → g.caption.starts < frame → frame ≤ g.caption.hide → w ≡ if_heard since g (shown_whole g)
  pub none : ((g : CaptionLoad) → Among g gs → g.caption.id ≡ id → g.caption.load < frame → g.caption.hide < frame) → w ≡ None

-- the window after the events of a frame that come before its delay, by the captions
pub record IsOpened (since : ℕ) (gs : List CaptionLoad) (id frame : ℕ) (w : Option WindowState) : Type 0 where
  pub loading : (g : CaptionLoad) → Among g gs → g.caption.id ≡ id → g.caption.load < frame → frame ≤ g.caption.starts
      → (g.caption.starts ≡ frame → 0 < g.caption.tenths) → w ≡ if_heard since g (own_edits (before frame) g None)
  pub showing : (g : CaptionLoad) → Among g gs → g.caption.id ≡ id → g.caption.starts ≤ frame → frame < g.caption.hide
      → (g.caption.starts ≡ frame → g.caption.tenths ≡ 0) → w ≡ if_heard since g (shown_whole g)
  pub none : ((g : CaptionLoad) → Among g gs → g.caption.id ≡ id → g.caption.load < frame → g.caption.hide ≤ frame) → w ≡ None

module _ (rate : Rate) (frames : ℕ) (gs : List CaptionLoad) (kept : AreKept rate frames (captions gs)) (order : AreInOrder gs) (since : ℕ) where
  -- two captions of one window
  apart : (g h : CaptionLoad) (id : ℕ) → Among g gs → Among h gs → g.caption.id ≡ id → h.caption.id ≡ id → Order g h
  apart g h id in_g in_h is too = ordered rate frames gs g h kept in_g in_h (is ∙ sym too)

  -- from after its LOAD up to its HIDE, which is left out, no caption of a caption's window is hidden
  not_hidden : (id frame : ℕ) (g : CaptionLoad) → Among g gs → g.caption.id ≡ id → g.caption.load < frame → frame < g.caption.hide
      → names (is_hidden_at frame) (captions gs) id ≡ false
  not_hidden id frame g among window from to =
      names_none (is_hidden_at frame) gs id
      (λ h in_h holds its.
      let is : h.caption.hide ≡ frame = eqb-true h.caption.hide frame holds in
      at h is (sound_of rate frames gs h kept in_h) (apart g h id among in_h window its))
    where
      at : (h : CaptionLoad) → h.caption.hide ≡ frame → IsSoundCaption rate frames h.caption → Order g h → ⊥
      at h is sound (inl same) = let one : g.caption.hide ≡ h.caption.hide = ap (λ (k : CaptionLoad). k.caption.hide) same in omega arith
      at h is sound (inr (inl first)) =
          let loaded = sound.loaded in
          let after = sound.after in
          let hidden = sound.hidden in
          omega arith
      at h is sound (inr (inr last)) = omega arith

  -- from its LOAD up to its HIDE no caption of its window is sent what shows it, but itself
  not_started : (id frame : ℕ) (g h : CaptionLoad) → Among g gs → Among h gs → g.caption.id ≡ id → h.caption.id ≡ id → g.caption.load ≤ frame
      → frame < g.caption.hide → frame ≢ g.caption.starts → h.caption.starts ≡ frame → ⊥
  not_started id frame g h among in_h window its from to other is = at (sound_of rate frames gs h kept in_h) (apart g h id among in_h window its)
    where
      at : IsSoundCaption rate frames h.caption → Order g h → ⊥
      at sound (inl same) = other (sym is ∙ ap (λ (k : CaptionLoad). k.caption.starts) (sym same))
      at sound (inr (inl first)) = let loaded = sound.loaded in omega arith
      at sound (inr (inr last)) =
          let after = sound.after in
          let hidden = sound.hidden in
          omega arith

  none_shown : (id frame : ℕ) (g : CaptionLoad) → Among g gs → g.caption.id ≡ id → g.caption.load ≤ frame → frame < g.caption.hide
      → frame ≢ g.caption.starts → names (is_shown_at frame) (captions gs) id ≡ false
  none_shown id frame g among window from to other =
      names_none (is_shown_at frame) gs id
      (λ h in_h holds its. not_started id frame g h among in_h window its from to other (shown_says frame h.caption holds).1)

  none_delayed : (id frame : ℕ) (g : CaptionLoad) → Among g gs → g.caption.id ≡ id → g.caption.load ≤ frame → frame < g.caption.hide
      → frame ≢ g.caption.starts → delay_names (delayed_at frame (captions gs)) id ≡ false
  none_delayed id frame g among window from to other = at (delay_names (delayed_at frame (captions gs)) id) refl
    where
      at : (b : Bool) → delay_names (delayed_at frame (captions gs)) id ≡ b → b ≡ false
      at false is = refl
      at true is =
          let named = delayed_names frame gs id is in
          absurd (not_started id frame g named.load among named.among window named.window from to other (delay_says frame named.load.caption named.holds).1)

  -- what shows a caption is sent at once, or after its delay
  is_started : (id : ℕ) (g : CaptionLoad) → Among g gs → g.caption.id ≡ id
      → (names (is_shown_at g.caption.starts) (captions gs) id || delay_names (delayed_at g.caption.starts (captions gs)) id) ≡ true
  is_started id g among window = at g.caption.tenths refl
    where
      first : (a b : Bool) → a ≡ true → (a || b) ≡ true
      first true b is = refl
      first false b is = cc

      second : (a b : Bool) → b ≡ true → (a || b) ≡ true
      second true b is = refl
      second false b is = is

      at : (tenths : ℕ) → g.caption.tenths ≡ tenths
          → (names (is_shown_at g.caption.starts) (captions gs) id || delay_names (delayed_at g.caption.starts (captions gs)) id) ≡ true
      at zero none = first _ _ (names_it (is_shown_at g.caption.starts) gs id g among (shown_holds g.caption.starts g.caption none refl) window)
      at (suc n) some =
          second _ _
          (ap (λ o. delay_names o id)
          (delayed_is rate frames g.caption.starts gs g kept among (delay_holds g.caption.starts g.caption (omega arith) refl))
          ∙ eq-eqb g.caption.id id window)

  -- text that comes no earlier than a frame comes before what shows its caption
  unfinished_ends : (g : CaptionLoad) (frame : ℕ) → IsOrdered g → Unfinished frame g.text → frame < g.caption.starts
  unfinished_ends g frame is un = at g.text is.texts un
    where
      at : (us : List (Command × ℕ)) → AllByRecursion (IsTextOf g) us → Unfinished frame us → frame < g.caption.starts
      at [] all un = absurd un
      at (u ∷ us) all (inl here) = let ended = all.0.ended in omega arith
      at (u ∷ us) all (inr rest) = at us all.1 rest

  -- one frame more
  module _ (id frame : ℕ) (w : Option WindowState) (low : since ≤ frame) (is : IsWindow since gs id frame w) where
    abbrev Hidden : Option WindowState
    Hidden = if_hidden (names (is_hidden_at frame) (captions gs) id) w

    abbrev Opened : Option WindowState
    Opened = if_shown (names (is_shown_at frame) (captions gs) id) Hidden

    abbrev Started : Option WindowState
    Started = if_shown (delay_names (delayed_at frame (captions gs)) id) Opened

    -- a window that none holds, or that is hidden in the frame, is there no longer
    emptied : ((g : CaptionLoad) → Among g gs → g.caption.id ≡ id → g.caption.load < frame → g.caption.hide ≤ frame) → Hidden ≡ None
    emptied all = at (names (is_hidden_at frame) (captions gs) id) refl
      where
        at : (b : Bool) → names (is_hidden_at frame) (captions gs) id ≡ b → if_hidden b w ≡ None
        at true some = refl
        at false not_there = is.none (λ g among window from.
            let to = all g among window from in
            elim (cases_lt g.caption.hide frame) [
              | inl low ↦ low
              | inr high ↦
                  let same : g.caption.hide ≡ frame = omega arith in
                  absurd (let there = names_it (is_hidden_at frame) gs id g among (eq-eqb g.caption.hide frame same) window in
                  let both : true ≡ false = sym there ∙ not_there in cc)
            ])

    -- the window of a caption which is loading, or is shown, stays
    stays : (g : CaptionLoad) → Among g gs → g.caption.id ≡ id → g.caption.load < frame → frame < g.caption.hide → Hidden ≡ w
    stays g among window from to = ap (λ (b : Bool). if_hidden b w) (not_hidden id frame g among window from to)

    unstarted : (g : CaptionLoad) → Among g gs → g.caption.id ≡ id → g.caption.load ≤ frame → frame < g.caption.hide → frame ≢ g.caption.starts
        → Started ≡ Hidden
    unstarted g among window from to other =
        shown_neither (names (is_shown_at frame) (captions gs) id) (delay_names (delayed_at frame (captions gs)) id) Hidden
        (none_shown id frame g among window from to other) (none_delayed id frame g among window from to other)

    next_loading : (g : CaptionLoad) → Among g gs → g.caption.id ≡ id → g.caption.load < suc frame → suc frame ≤ g.caption.starts
        → all_edits frame id gs Started ≡ if_heard since g (own_edits (before (suc frame)) g None)
    next_loading g among window from to =
        let sound = sound_of rate frames gs g kept among in
        let after = sound.after in
        let hidden = sound.hidden in
        let in_order = order_of gs g order among in
        edits_own rate frames frame id gs g Started kept order among window (omega arith) (omega arith)
        ∙ ap (own_edits (in_frame frame) g) (unstarted g among window (omega arith) (omega arith) (λ same. omega arith) ∙ so_far (cases_lt g.caption.load frame) in_order)
        ∙ heard_edits since frame g (own_edits (before frame) g None) low
        ∙ ap (if_heard since g) (sym (own_more frame g None in_order))
      where
        so_far : (g.caption.load < frame) ⊎ (frame ≤ g.caption.load) → IsOrdered g → Hidden ≡ if_heard since g (own_edits (before frame) g None)
        so_far (inl under) in_order =
            let sound = sound_of rate frames gs g kept among in
            let after = sound.after in
            let hidden = sound.hidden in
            stays g among window under (omega arith) ∙ is.loading g among window under (omega arith)
        so_far (inr high) in_order =
            let loaded = in_order.loaded in
            emptied (λ h in_h its under. at h under (apart g h id among in_h window its))
            ∙ sym (ap (if_heard since g) (own_early frame g None in_order (omega arith)) ∙ heard_none since g)
          where
            at : (h : CaptionLoad) → h.caption.load < frame → Order g h → h.caption.hide ≤ frame
            at h under (inl same) = let one : g.caption.load ≡ h.caption.load = ap (λ (k : CaptionLoad). k.caption.load) same in absurd (omega arith)
            at h under (inr (inl first)) =
                let sound = sound_of rate frames gs g kept among in
                let loaded = sound.loaded in
                let after = sound.after in
                let hidden = sound.hidden in
                absurd (omega arith)
            at h under (inr (inr last)) = omega arith

    next_showing : (g : CaptionLoad) → Among g gs → g.caption.id ≡ id → g.caption.starts < suc frame → suc frame ≤ g.caption.hide
        → all_edits frame id gs Started ≡ if_heard since g (shown_whole g)
    next_showing g among window from to =
        let sound = sound_of rate frames gs g kept among in
        let loaded = sound.loaded in
        edits_none frame id gs Started order (λ h in_h its low high. alone h low high (sound_of rate frames gs h kept in_h) (apart g h id among in_h window its))
        ∙ at (cases_lt g.caption.starts frame)
      where
        alone : (h : CaptionLoad) → h.caption.load ≤ frame → frame < h.caption.starts → IsSoundCaption rate frames h.caption → Order g h → ⊥
        alone h low high sound (inl same) = let one : g.caption.starts ≡ h.caption.starts = ap (λ (k : CaptionLoad). k.caption.starts) same in omega arith
        alone h low high sound (inr (inl first)) = omega arith
        alone h low high sound (inr (inr last)) =
            let own = sound_of rate frames gs g kept among in
            let loaded = own.loaded in
            let after = sound.after in
            let hidden = sound.hidden in
            omega arith

        at : (g.caption.starts < frame) ⊎ (frame ≤ g.caption.starts) → Started ≡ if_heard since g (shown_whole g)
        at (inl low) =
            let sound = sound_of rate frames gs g kept among in
            let loaded = sound.loaded in
            unstarted g among window (omega arith) (omega arith) (λ same. omega arith)
            ∙ stays g among window (omega arith) (omega arith)
            ∙ is.showing g among window low (omega arith)
        at (inr high) =
            let sound = sound_of rate frames gs g kept among in
            let loaded = sound.loaded in
            let same : g.caption.starts ≡ frame = omega arith in
            let in_order = order_of gs g order among in
            shown_either (names (is_shown_at frame) (captions gs) id) (delay_names (delayed_at frame (captions gs)) id) Hidden
            (subst (λ (n : ℕ). (names (is_shown_at n) (captions gs) id || delay_names (delayed_at n (captions gs)) id) ≡ true) same (is_started id g among window))
            ∙ ap (option_map (with_visibility true))
            (stays g among window (omega arith) (omega arith)
            ∙ is.loading g among window (omega arith) (omega arith)
            ∙ ap (if_heard since g) (own_late frame g None in_order (omega arith)))
            ∙ heard_map (with_visibility true) since g (whole g)

    next_none : ((g : CaptionLoad) → Among g gs → g.caption.id ≡ id → g.caption.load < suc frame → g.caption.hide < suc frame)
        → all_edits frame id gs Started ≡ None
    next_none all =
        edits_none frame id gs Started order
        (λ h in_h its low high.
        let sound = sound_of rate frames gs h kept in_h in
        let after = sound.after in
        let hidden = sound.hidden in
        let gone = all h in_h its (omega arith) in
        omega arith)
        ∙ shown_nothing (delay_names (delayed_at frame (captions gs)) id) Opened
        (shown_nothing (names (is_shown_at frame) (captions gs) id) Hidden
        (emptied (λ g among window from. let gone = all g among window (omega arith) in omega arith)))

    window_next : IsWindow since gs id (suc frame) (all_edits frame id gs Started)
    window_next = record { loading = next_loading; showing = next_showing; none = next_none }

    -- the same after the events alone
    open_loading : (g : CaptionLoad) → Among g gs → g.caption.id ≡ id → g.caption.load < frame → frame ≤ g.caption.starts
        → (g.caption.starts ≡ frame → 0 < g.caption.tenths) → Opened ≡ if_heard since g (own_edits (before frame) g None)
    open_loading g among window from to late =
        let sound = sound_of rate frames gs g kept among in
        let after = sound.after in
        let hidden = sound.hidden in
        ap (λ (b : Bool). if_shown b Hidden) (names_none (is_shown_at frame) gs id (λ h in_h holds its.
        let told = shown_says frame h.caption holds in
        at h told.0 told.1 (sound_of rate frames gs h kept in_h) (apart g h id among in_h window its)))
        ∙ stays g among window from (omega arith)
        ∙ is.loading g among window from to
      where
        at : (h : CaptionLoad) → h.caption.tenths ≡ 0 → h.caption.starts ≡ frame → IsSoundCaption rate frames h.caption → Order g h → ⊥
        at h none is_here sound (inl same) =
            let starts : g.caption.starts ≡ h.caption.starts = ap (λ (k : CaptionLoad). k.caption.starts) same in
            let tenths : g.caption.tenths ≡ h.caption.tenths = ap (λ (k : CaptionLoad). k.caption.tenths) same in
            let some = late (starts ∙ is_here) in
            omega arith
        at h none is_here sound (inr (inl first)) =
            let own = sound_of rate frames gs g kept among in
            let after = own.after in
            let hidden = own.hidden in
            let loaded = sound.loaded in
            omega arith
        at h none is_here sound (inr (inr last)) =
            let after = sound.after in
            let hidden = sound.hidden in
            omega arith

    open_showing : (g : CaptionLoad) → Among g gs → g.caption.id ≡ id → g.caption.starts ≤ frame → frame < g.caption.hide
        → (g.caption.starts ≡ frame → g.caption.tenths ≡ 0) → Opened ≡ if_heard since g (shown_whole g)
    open_showing g among window from to at_once = at (cases_lt g.caption.starts frame)
      where
        at : (g.caption.starts < frame) ⊎ (frame ≤ g.caption.starts) → Opened ≡ if_heard since g (shown_whole g)
        at (inl low) =
            let sound = sound_of rate frames gs g kept among in
            let loaded = sound.loaded in
            ap (λ (b : Bool). if_shown b Hidden) (none_shown id frame g among window (omega arith) to (λ same. omega arith))
            ∙ stays g among window (omega arith) to
            ∙ is.showing g among window low (omega arith)
        at (inr high) =
            let sound = sound_of rate frames gs g kept among in
            let loaded = sound.loaded in
            let same : g.caption.starts ≡ frame = omega arith in
            ap (λ (b : Bool). if_shown b Hidden) (names_it (is_shown_at frame) gs id g among (shown_holds frame g.caption (at_once same) same) window)
            ∙ ap (option_map (with_visibility true))
            (stays g among window (omega arith) to
            ∙ is.loading g among window (omega arith) (omega arith)
            ∙ ap (if_heard since g) (own_late frame g None (order_of gs g order among) (omega arith)))
            ∙ heard_map (with_visibility true) since g (whole g)

    open_none : ((g : CaptionLoad) → Among g gs → g.caption.id ≡ id → g.caption.load < frame → g.caption.hide ≤ frame) → Opened ≡ None
    open_none all = shown_nothing (names (is_shown_at frame) (captions gs) id) Hidden (emptied all)

    window_opened : IsOpened since gs id frame Opened
    window_opened = record { loading = open_loading; showing = open_showing; none = open_none }

    -- the window of a caption that isn't heard isn't there while it is loading
    bare_started : (g : CaptionLoad) → Among g gs → g.caption.id ≡ id → g.first < since → Unfinished frame g.text → Started ≡ None
    bare_started g among window less un =
        let in_order = order_of gs g order among in
        let sound = sound_of rate frames gs g kept among in
        let loaded = in_order.loaded in
        let after = sound.after in
        let hidden = sound.hidden in
        let ends = unfinished_ends g frame in_order un in
        unstarted g among window (omega arith) (omega arith) (λ same. omega arith)
        ∙ stays g among window (omega arith) (omega arith)
        ∙ is.loading g among window (omega arith) (omega arith)
        ∙ is_lost since g (own_edits (before frame) g None) less

  -- what a frame does to each window
  opening_windows : (frame id : ℕ) (s : ScreenState) → id < 8 → (opening frame gs s).windows id
      ≡ if_shown (names (is_shown_at frame) (captions gs) id) (if_hidden (names (is_hidden_at frame) (captions gs) id) (s.windows id))
  opening_windows frame id s small =
      shown_windows (is_shown_at frame) (captions gs) (acted_by (windows_command Dlw (is_hidden_at frame) (captions gs)) s) id small
      ∙ ap (if_shown (names (is_shown_at frame) (captions gs) id)) (hidden_windows (is_hidden_at frame) (captions gs) s id small)

  -- the screen before a frame
  record Stands (frame : ℕ) : Type 0 where
    windows : (id : ℕ) → id < 8 → IsWindow since gs id frame ((screen_from since gs frame).windows id)
    current : IsHeardCurrent since frame gs (screen_from since gs frame)

  -- no window is made current by what hides
  none_hidden : (test : Caption → Bool) (s : ScreenState) → s.current ≡ None → (acted_by (windows_command Dlw test (captions gs)) s).current ≡ None
  none_hidden test s none = at (list_any test (captions gs))
    where
      at : (b : Bool) → (acted_by (if b then Dlw (windows_byte (names test (captions gs))) ∷ [] else []) s).current ≡ None
      at true = ap (current_without (windows_byte (names test (captions gs)))) none
      at false = none

  -- what is current stays in the events of a frame
  opening_current : (frame : ℕ) (s : ScreenState) → IsHeardCurrent since frame gs s → IsHeardCurrent since frame gs (delay_shows (delayed_at frame (captions gs)) (opening frame gs s))
  opening_current frame s current g among begun un =
      delay_current (delayed_at frame (captions gs)) (opening frame gs s)
      ∙ shown_current (is_shown_at frame) (captions gs) (acted_by (windows_command Dlw (is_hidden_at frame) (captions gs)) s)
      ∙ hides (cases_lt g.first since)
    where
      hides : (g.first < since) ⊎ (since ≤ g.first) → (acted_by (windows_command Dlw (is_hidden_at frame) (captions gs)) s).current ≡ if_heard since g (Some g.caption.id)
      hides (inl less) =
          none_hidden (is_hidden_at frame) s (current g among begun un ∙ is_lost since g (Some g.caption.id) less) ∙ sym (is_lost since g (Some g.caption.id) less)
      hides (inr high) =
          let in_order = order_of gs g order among in
          let sound = sound_of rate frames gs g kept among in
          let loaded = in_order.loaded in
          let after = sound.after in
          let hidden = sound.hidden in
          let ends = unfinished_ends g frame in_order un in
          hidden_current (is_hidden_at frame) (captions gs) s g.caption.id sound.window
          (not_hidden g.caption.id frame g among refl (omega arith) (omega arith))
          (current g among begun un ∙ is_heard since g (Some g.caption.id) high)
          ∙ sym (is_heard since g (Some g.caption.id) high)

  -- when nothing was heard yet
  begins : (frame : ℕ) → frame ≡ since → screen_from since gs frame ≡ empty_screen → Stands frame
  begins frame here empty = record {
    windows = λ id small. subst (λ (s : ScreenState). IsWindow since gs id frame (s.windows id)) (sym empty) (record {
      loading = λ g among window past to. elim (cases_lt g.first since) [
        | inl less ↦ sym (is_lost since g (own_edits (before frame) g None) less)
        | inr high ↦ sym (ap (if_heard since g) (own_early frame g None (order_of gs g order among) (omega arith)) ∙ heard_none since g)
      ];
      showing = λ g among window past to. let in_order = order_of gs g order among in let ended = in_order.ended in sym (is_lost since g (shown_whole g) (omega arith));
      none = λ all. refl;
    });
    current = λ g among begun un. ap (λ (s : ScreenState). s.current) empty ∙ sym (is_lost since g (Some g.caption.id) (omega arith));
  }

  stands_at : (frame : ℕ) → since ≤ frame → Stands frame
  stands_at zero low = begins zero (omega arith) refl
  stands_at (suc frame) low = elim (cases_lt frame since) [
    | inl less ↦ begins (suc frame) (omega arith) (empty_until since gs (suc frame) (omega arith))
    | inr behind ↦ next frame behind (stands_at frame behind)
  ]
    where
      next : (frame : ℕ) → since ≤ frame → Stands frame → Stands (suc frame)
      next frame behind was =
          let test : nat_lt frame since ≡ false = grind (arith, nat_tests) in
          let s : ScreenState = screen_from since gs frame in
          let t : ScreenState = delay_shows (delayed_at frame (captions gs)) (opening frame gs s) in
          let now : screen_from since gs (suc frame) ≡ loads_act frame gs t = rw test refl in
          let started : (id : ℕ) (small : id < 8) → t.windows id ≡ Started id frame (s.windows id) behind (was.windows id small) =
          λ id small.
          delay_windows (delayed_at frame (captions gs)) (opening frame gs s) id small
          ∙ ap (if_shown (delay_names (delayed_at frame (captions gs)) id)) (opening_windows frame id s small) in
          let loads = frame_heard since frame gs t behind order (opening_current frame s was.current)
          (λ g among less un.
          let small = (sound_of rate frames gs g kept among).window in
          started g.caption.id small
          ∙ bare_started g.caption.id frame (s.windows g.caption.id) behind (was.windows g.caption.id small) g among refl less un) in
          record {
            windows = λ id small.
                subst (IsWindow since gs id (suc frame)) (sym (ap (λ (x : ScreenState). x.windows id) now ∙ loads.windows id ∙ ap (all_edits frame id gs) (started id small)))
                (window_next id frame (s.windows id) behind (was.windows id small));
            current = λ g among begun un. ap (λ (x : ScreenState). x.current) now ∙ loads.current g among begun un;
          }

  pub window_is : (frame id : ℕ) → since ≤ frame → id < 8 → IsWindow since gs id frame ((screen_from since gs frame).windows id)
  window_is frame id low small = (stands_at frame low).windows id small

  pub opened_is : (frame id : ℕ) → since ≤ frame → id < 8 → IsOpened since gs id frame ((opening frame gs (screen_from since gs frame)).windows id)
  opened_is frame id low small =
      subst (IsOpened since gs id frame) (sym (opening_windows frame id (screen_from since gs frame) small))
      (window_opened id frame ((screen_from since gs frame).windows id) low (window_is frame id low small))
