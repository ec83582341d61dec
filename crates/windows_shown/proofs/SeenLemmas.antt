-- What is seen of a window at a frame, where nothing is heard of the frames before one: the whole of the caption that is shown there
-- and heard, and nothing where none is shown. Within a delay it is what the events of the delay's first frame left.
use Rattle.std.proofs.Common.{◌≡◌, ◌≢◌, ◌∙◌, ℕ, zero, suc, ◌<◌, ◌≤◌, ◌⊎◌, inl, inr, ◌&&◌, Bool, true, false, if◌then◌else◌, List, [], ◌∷◌, Option, Some, None, refl, sym, ap, subst, arith}
use Rattle.std.specs.Prelude.{nat_lt, option_map}
use Rattle.std.proofs.lemmas.Bool.{cases_lt}
use Rattle.std.proofs.lemmas.Bool.Decides.{nat_tests}
use Rattle.cc_base.specs.declared.rate.Rate.{Rate}
use Rattle.dtvcc_codes.specs.declared.commands.Command.{Command}
use Rattle.dtvcc_windows.specs.Defining.{defined}
use Rattle.dtvcc_windows.specs.Showing.{ShownWindow, as_shown, shown}
use Rattle.dtvcc_windows.specs.Windows.{WindowState}
use Rattle.dtvcc_screen.specs.Commands.{edited_by}
use Rattle.dtvcc_author.specs.declared.caption.Caption.{Caption}
use Rattle.dtvcc_author.specs.FrameEvents.{names}
use Rattle.dtvcc_author.specs.Kept.{AreKept, IsUncovered}
use Rattle.dtvcc_author.proofs.LatestLemmas.{Has}
use Rattle.windows_shown.proofs.LoadingLemmas.{edit_hidden}
use Rattle.windows_shown.proofs.CaptionLoads.{AreInOrder, Among, CaptionLoad, IsOrdered, before, captions, edits, own_edits}
use Rattle.windows_shown.proofs.MemberLemmas.{Two, named_by, names_it, order_of, sound_of, two}
use Rattle.windows_shown.proofs.HeardLemmas.{if_heard, is_heard, is_lost}
use Rattle.windows_shown.proofs.WindowLemmas.{IsOpened, IsWindow, opened_is, opening, screen_from, shown_whole, window_is}

-- nothing is seen of a window that is loading
edits_hidden : (test : ℕ → Bool) (us : List (Command × ℕ)) (w : Option WindowState) → shown w ≡ None → shown (edits test us w) ≡ None
edits_hidden test [] w hidden = hidden
edits_hidden test (u ∷ us) w hidden =
    edits_hidden test us (if test u.1 then option_map (edited_by u.0) w else w) (at (test u.1) w hidden)
  where
    at : (b : Bool) (x : Option WindowState) → shown x ≡ None → shown (if b then option_map (edited_by u.0) x else x) ≡ None
    at false x is = is
    at true None is = refl
    at true (Some x) is = edit_hidden u.0 x is

loading_hidden : (test : ℕ → Bool) (g : CaptionLoad) → IsOrdered g → shown (own_edits test g None) ≡ None
loading_hidden test g is =
    edits_hidden test g.text (if test g.first then Some (defined g.definition None) else None) (at (test g.first))
  where
    at : (b : Bool) → shown (if b then Some (defined g.definition None) else None) ≡ None
    at false = refl
    at true = ap (λ (visible : Bool). if visible then Some (as_shown (defined g.definition None)) else None) is.hidden

-- what is seen of the window of an id at a frame, by the captions whose DefineWindow stands in a frame or after it: from frame 0 on
-- by all
pub record IsSeen (since : ℕ) (gs : List CaptionLoad) (id frame : ℕ) (seen : Option ShownWindow) : Type 0 where
  pub has : (g : CaptionLoad) → Among g gs → g.caption.id ≡ id → g.caption.show ≤ frame → frame < g.caption.hide → since ≤ g.first
      → seen ≡ shown (shown_whole g)
  pub none : ((g : CaptionLoad) → Among g gs → g.caption.id ≡ id → g.caption.show ≤ frame → frame < g.caption.hide → ⊥) → seen ≡ None

-- the delay of a caption, which is heard, is on before a frame
pub record IsDelaying (since frame : ℕ) (g : CaptionLoad) : Type 0 where
  pub heard : since ≤ g.caption.starts
  pub some : 0 < g.caption.tenths
  pub from : g.caption.starts < frame
  pub to : frame ≤ g.caption.show

-- some caption's is, or none's
abbrev pub Delaying : ℕ → ℕ → List CaptionLoad → Type 0
Delaying since frame gs =
    ((g : CaptionLoad) × Among g gs × IsDelaying since frame g) ⊎ ((g : CaptionLoad) → Among g gs → IsDelaying since frame g → ⊥)

pub is_delaying : (since frame : ℕ) (gs : List CaptionLoad) → Delaying since frame gs
is_delaying since frame [] = inr (λ g among on. among)
is_delaying since frame (g ∷ gs) =
    at (one (cases_lt g.caption.starts since) (cases_lt 0 g.caption.tenths) (cases_lt g.caption.starts frame) (cases_lt g.caption.show frame))
    (is_delaying since frame gs)
  where
    one : (g.caption.starts < since) ⊎ (since ≤ g.caption.starts) → (0 < g.caption.tenths) ⊎ (g.caption.tenths ≤ 0)
        → (g.caption.starts < frame) ⊎ (frame ≤ g.caption.starts) → (g.caption.show < frame) ⊎ (frame ≤ g.caption.show)
        → IsDelaying since frame g ⊎ (IsDelaying since frame g → ⊥)
    one (inr heard) (inl some) (inl from) (inr to) = inl (record { heard = heard; some = some; from = from; to = to })
    one (inl lost) some from to = inr (λ on. let heard = on.heard in omega arith)
    one (inr heard) (inr none) from to = inr (λ on. let some = on.some in omega arith)
    one (inr heard) (inl some) (inr late) to = inr (λ on. let from = on.from in omega arith)
    one (inr heard) (inl some) (inl from) (inl over) = inr (λ on. let to = on.to in omega arith)

    at : IsDelaying since frame g ⊎ (IsDelaying since frame g → ⊥) → Delaying since frame gs → Delaying since frame (g ∷ gs)
    at (inl on) rest = inl (g, inl refl, on)
    at (inr off) (inl (h, among, on)) = inl (h, inr among, on)
    at (inr off) (inr none) = inr nowhere
      where
        nowhere : (h : CaptionLoad) → Among h (g ∷ gs) → IsDelaying since frame h → ⊥
        nowhere h (inl same) on = off (subst (IsDelaying since frame) same on)
        nowhere h (inr among) on = none h among on

-- the caption has its window before a frame: it has been loaded before, and is hidden in it or later
abbrev has_window : ℕ → Caption → Bool
has_window frame c = nat_lt c.load frame && nat_lt frame (suc c.hide)

-- the same after the frame's events
abbrev keeps_window : ℕ → Caption → Bool
keeps_window frame c = nat_lt c.load frame && nat_lt frame c.hide

has_says : (frame : ℕ) (c : Caption) → has_window frame c ≡ true → (c.load < frame) × (frame ≤ c.hide)
has_says frame c test = (grind (arith, nat_tests), grind (arith, nat_tests))

has_holds : (frame : ℕ) (c : Caption) → c.load < frame → frame ≤ c.hide → has_window frame c ≡ true
has_holds frame c from to = grind (arith, nat_tests)

keeps_says : (frame : ℕ) (c : Caption) → keeps_window frame c ≡ true → (c.load < frame) × (frame < c.hide)
keeps_says frame c test = (grind (arith, nat_tests), grind (arith, nat_tests))

keeps_holds : (frame : ℕ) (c : Caption) → c.load < frame → frame < c.hide → keeps_window frame c ≡ true
keeps_holds frame c from to = grind (arith, nat_tests)

-- a number is 0, or more
none_or_some : (n : ℕ) → (n ≡ 0) ⊎ (0 < n)
none_or_some zero = inl refl
none_or_some (suc n) = inr (omega arith)

-- nothing is seen of a window that is loading, or of one that isn't heard
loading_unseen : (since : ℕ) (test : ℕ → Bool) (g : CaptionLoad) → IsOrdered g → shown (if_heard since g (own_edits test g None)) ≡ None
loading_unseen since test g is = at (nat_lt g.first since)
  where
    at : (b : Bool) → shown (if b then None else own_edits test g None) ≡ None
    at true = refl
    at false = loading_hidden test g is

module _ (rate : Rate) (frames : ℕ) (gs : List CaptionLoad) (kept : AreKept rate frames (captions gs)) (order : AreInOrder gs) (since : ℕ) where
  -- where no delay is on
  module _ (frame id : ℕ) (clear : (g : CaptionLoad) → Among g gs → IsDelaying since (suc frame) g → ⊥) (w : Option WindowState)
      (is : IsWindow since gs id (suc frame) w) where
    seen_now : (g : CaptionLoad) → Among g gs → g.caption.id ≡ id → g.caption.show ≤ frame → frame < g.caption.hide → since ≤ g.first → shown w ≡ shown (shown_whole g)
    seen_now g among window from to high =
        let sound = sound_of rate frames gs g kept among in
        let after = sound.after in
        ap shown (is.showing g among window (omega arith) (omega arith) ∙ is_heard since g (shown_whole g) high)

    unseen_now : ((g : CaptionLoad) → Among g gs → g.caption.id ≡ id → g.caption.show ≤ frame → frame < g.caption.hide → ⊥) → shown w ≡ None
    unseen_now all = at (names (has_window (suc frame)) (captions gs) id) refl
      where
        started : (g : CaptionLoad) → Among g gs → g.caption.id ≡ id → g.caption.starts < suc frame → suc frame ≤ g.caption.hide → since ≤ g.first → ⊥
        started g among window from to heard = elim (cases_lt frame g.caption.show) [
          | inr shows ↦ all g among window shows (omega arith)
          | inl early ↦ elim (none_or_some g.caption.tenths) [
            | inl none ↦ let sound = sound_of rate frames gs g kept among in
                let same = sound.at_once none in omega arith
            | inr some ↦ let in_order = order_of gs g order among in let ended = in_order.ended in
                clear g among (record { heard = omega arith; some = some; from = from; to = omega arith })
          ]
        ]

        in_window : (g : CaptionLoad) → Among g gs → g.caption.id ≡ id → g.caption.load < suc frame → suc frame ≤ g.caption.hide → shown w ≡ None
        in_window g among window from to = elim (cases_lt g.caption.starts (suc frame)) [
          | inl low ↦ elim (cases_lt g.first since) [
            | inl less ↦ ap shown (is.showing g among window low to ∙ is_lost since g (shown_whole g) less)
            | inr heard ↦ absurd (started g among window low to heard)
          ]
          | inr high ↦ ap shown (is.loading g among window from high) ∙ loading_unseen since (before (suc frame)) g (order_of gs g order among)
        ]

        at : (b : Bool) → names (has_window (suc frame)) (captions gs) id ≡ b → shown w ≡ None
        at true some =
            let named = named_by (has_window (suc frame)) gs id some in
            let says = has_says (suc frame) named.load.caption named.holds in
            in_window named.load named.among named.window says.0 says.1
        at false none =
            ap shown (is.none (λ g among window from. elim (cases_lt g.caption.hide (suc frame)) [
              | inl low ↦ low
              | inr high ↦ absurd (let there = names_it (has_window (suc frame)) gs id g among (has_holds (suc frame) g.caption from high) window in
                  let both : true ≡ false = sym there ∙ none in cc)
            ]))

  -- within the delay of a caption
  module _ (frame id : ℕ) (d : CaptionLoad) (in_d : Among d gs) (on : IsDelaying since (suc frame) d) (w : Option WindowState)
      (is : IsOpened since gs id d.caption.starts w) where
    record Beside (g : CaptionLoad) : Type 0 where
      its : IsUncovered d.caption g.caption
      own : IsUncovered g.caption d.caption
      apart : 0 < d.caption.tenths → 0 < g.caption.tenths → d.caption.starts ≢ g.caption.starts

    beside : (g : CaptionLoad) → Two d g → (d ≡ g) ⊎ Beside g
    beside g (inl same) = inl same
    beside g (inr (inl behind)) = inr (record { its = behind.uncovering; own = behind.uncovered; apart = behind.apart })
    beside g (inr (inr ahead)) =
        inr (record { its = ahead.uncovered; own = ahead.uncovering; apart = λ some other same. ahead.apart other some (sym same) })

    seen_then : (g : CaptionLoad) → Among g gs → g.caption.id ≡ id → g.caption.show ≤ frame → frame < g.caption.hide → since ≤ g.first → shown w ≡ shown (shown_whole g)
    seen_then g among window from to heard = at (beside g (two rate frames gs d g kept in_d among))
      where
        at : (d ≡ g) ⊎ Beside g → shown w ≡ shown (shown_whole g)
        at (inl same) =
            let one : d.caption.show ≡ g.caption.show = ap (λ (k : CaptionLoad). k.caption.show) same in
            let last = on.to in
            absurd (omega arith)
        at (inr b) =
            let sound = sound_of rate frames gs g kept among in
            let after = sound.after in
            let begins = on.from in
            let last = on.to in
            let early : g.caption.starts ≤ d.caption.starts = elim (cases_lt d.caption.starts g.caption.starts) [
              | inl late ↦ absurd (let ended = b.its.starts on.some late in omega arith)
              | inr low ↦ low
            ] in
            ap shown (is.showing g among window early (omega arith)
            (λ same. elim (none_or_some g.caption.tenths) [
              | inl none ↦ none
              | inr some ↦ absurd (b.apart on.some some (sym same))
            ]) ∙ is_heard since g (shown_whole g) heard)

    unseen_then : ((g : CaptionLoad) → Among g gs → g.caption.id ≡ id → g.caption.show ≤ frame → frame < g.caption.hide → ⊥) → shown w ≡ None
    unseen_then all = at (names (keeps_window d.caption.starts) (captions gs) id) refl
      where
        -- a caption that is shown by then is shown at the frame
        started : (g : CaptionLoad) → Among g gs → g.caption.id ≡ id → g.caption.starts ≤ d.caption.starts → d.caption.starts < g.caption.hide
            → (g.caption.starts ≡ d.caption.starts → g.caption.tenths ≡ 0) → (d ≡ g) ⊎ Beside g → ⊥
        started g among window from to at_once (inl same) =
            let starts : d.caption.starts ≡ g.caption.starts = ap (λ (k : CaptionLoad). k.caption.starts) same in
            let tenths : d.caption.tenths ≡ g.caption.tenths = ap (λ (k : CaptionLoad). k.caption.tenths) same in
            let none = at_once (sym starts) in
            let some = on.some in
            omega arith
        started g among window from to at_once (inr b) =
            let sound = sound_of rate frames gs g kept among in
            let begins = on.from in
            let last = on.to in
            let ends : d.caption.show ≤ g.caption.hide = b.its.hide on.some to in
            let shows : g.caption.show ≤ d.caption.starts = elim (none_or_some g.caption.tenths) [
              | inl none ↦ let same = sound.at_once none in omega arith
              | inr some ↦ elim (cases_lt g.caption.starts d.caption.starts) [
                | inl low ↦ b.own.starts some low
                | inr high ↦ let same : g.caption.starts ≡ d.caption.starts = omega arith in
                    let none = at_once same in absurd (omega arith)
              ]
            ] in
            all g among window (omega arith) (omega arith)

        loading : (g : CaptionLoad) → Among g gs → g.caption.id ≡ id → g.caption.load < d.caption.starts → d.caption.starts ≤ g.caption.starts
            → (g.caption.starts ≡ d.caption.starts → 0 < g.caption.tenths) → shown w ≡ None
        loading g among window from to late =
            ap shown (is.loading g among window from to late) ∙ loading_unseen since (before d.caption.starts) g (order_of gs g order among)

        in_window : (g : CaptionLoad) → Among g gs → g.caption.id ≡ id → g.caption.load < d.caption.starts → d.caption.starts < g.caption.hide
            → (g.caption.starts < d.caption.starts) ⊎ (d.caption.starts ≤ g.caption.starts)
            → (d.caption.starts < g.caption.starts) ⊎ (g.caption.starts ≤ d.caption.starts)
            → (g.caption.tenths ≡ 0) ⊎ (0 < g.caption.tenths) → shown w ≡ None
        in_window g among window from to early (inl late) tenths = loading g among window from (omega arith) (λ same. absurd (omega arith))
        in_window g among window from to (inl early) (inr high) tenths =
            absurd (started g among window high to (λ same. absurd (omega arith)) (beside g (two rate frames gs d g kept in_d among)))
        in_window g among window from to (inr low) (inr high) (inl none) =
            absurd (started g among window high to (λ same. none) (beside g (two rate frames gs d g kept in_d among)))
        in_window g among window from to (inr low) (inr high) (inr some) = loading g among window from low (λ same. some)

        at : (b : Bool) → names (keeps_window d.caption.starts) (captions gs) id ≡ b → shown w ≡ None
        at true some =
            let named = named_by (keeps_window d.caption.starts) gs id some in
            let says = keeps_says d.caption.starts named.load.caption named.holds in
            in_window named.load named.among named.window says.0 says.1 (cases_lt named.load.caption.starts d.caption.starts)
            (cases_lt d.caption.starts named.load.caption.starts) (none_or_some named.load.caption.tenths)
        at false none =
            ap shown (is.none (λ g among window from. elim (cases_lt d.caption.starts g.caption.hide) [
              | inr low ↦ low
              | inl high ↦ absurd (let there = names_it (keeps_window d.caption.starts) gs id g among (keeps_holds d.caption.starts g.caption from high) window in
                  let both : true ≡ false = sym there ∙ none in cc)
            ]))

  pub seen_outside : (frame id : ℕ) → since ≤ frame → id < 8
      → ((g : CaptionLoad) → Among g gs → IsDelaying since (suc frame) g → ⊥)
      → IsSeen since gs id frame (shown ((screen_from since gs (suc frame)).windows id))
  seen_outside frame id low small clear =
      let w : Option WindowState = (screen_from since gs (suc frame)).windows id in
      let is = window_is rate frames gs kept order since (suc frame) id (omega arith) small in
      record { has = seen_now frame id clear w is; none = unseen_now frame id clear w is }

  pub seen_within : (frame id : ℕ) → id < 8 → (d : CaptionLoad) → Among d gs → IsDelaying since (suc frame) d
      → IsSeen since gs id frame (shown ((opening d.caption.starts gs (screen_from since gs d.caption.starts)).windows id))
  seen_within frame id small d among on =
      let w : Option WindowState = (opening d.caption.starts gs (screen_from since gs d.caption.starts)).windows id in
      let is = opened_is rate frames gs kept order since d.caption.starts id on.heard small in
      record { has = seen_then frame id d among on w is; none = unseen_then frame id d among on w is }

-- what is seen by the captions that are heard is seen by all, where each that is up was loaded since
among_has : (g : CaptionLoad) (gs : List CaptionLoad) → Among g gs → Has g.caption (captions gs)
among_has g [] among = absurd among
among_has g (h ∷ gs) (inl same) = inl (ap (λ (k : CaptionLoad). k.caption) same)
among_has g (h ∷ gs) (inr among) = inr (among_has g gs among)

pub seen_by_all : (since : ℕ) (gs : List CaptionLoad) (id frame : ℕ) (seen : Option ShownWindow) → AreInOrder gs
    → ((c : Caption) → Has c (captions gs) → frame < c.hide → since ≤ c.load) → IsSeen since gs id frame seen → IsSeen 0 gs id frame seen
seen_by_all since gs id frame seen order up is = record {
  has = λ g among window from to all.
      let in_order = order_of gs g order among in
      let loaded = in_order.loaded in
      let late = up g.caption (among_has g gs among) to in
      is.has g among window from to (omega arith);
  none = is.none;
}
