-- What stands in a frame to load captions, each in its window: the window that is loading stays current.
use Rattle.std.proofs.Common.{◌≡◌, ◌∙◌, ℕ, suc, ◌<◌, ◌≤◌, ◌==◌, ◌||◌, ◌⊎◌, inl, inr, Bool, true, false, List, [], ◌∷◌, Some, refl, sym, ap, subst, arith}
use Rattle.std.specs.List.{AllByRecursion}
use Rattle.std.proofs.lemmas.Bool.{eqb-true}
use Rattle.std.proofs.lemmas.Bool.Decides.{nat_tests}
use Rattle.dtvcc_codes.specs.declared.commands.Command.{Command}
use Rattle.dtvcc_screen.specs.Screens.{ScreenState}
use Rattle.windows_shown.proofs.CaptionLoads.{AreInOrder, Among, CaptionLoad, IsBefore, IsOrdered, IsTextOf, all_edits, is_at, is_text_at, load_acts, loads_act}
use Rattle.windows_shown.proofs.TextLemmas.{AreTexts, LoadActs, load_acts_so}

-- some text stands in a frame from this one on
abbrev pub Unfinished : ℕ → List (Command × ℕ) → Type 0
Unfinished frame [] = ⊥
Unfinished frame (u ∷ us) = (frame ≤ u.1) ⊎ Unfinished frame us

-- the window of a caption that has begun to load, and isn't loaded, is current
abbrev pub IsCurrent : ℕ → List CaptionLoad → ScreenState → Type 0
IsCurrent frame gs s = (g : CaptionLoad) → Among g gs → g.first < frame → Unfinished frame g.text → s.current ≡ Some g.caption.id

-- text in a frame
text_up_to : (frame last : ℕ) (us : List (Command × ℕ)) → AllByRecursion (λ (u : Command × ℕ). u.1 ≤ last) us → last < frame → is_text_at frame us ≡ false
text_up_to frame last [] all less = refl
text_up_to frame last (u ∷ us) all less =
    let first : u.1 ≤ last = all.0 in
    let other : (u.1 == frame) ≡ false = grind (arith, nat_tests) in
    ap (λ (b : Bool). b || is_text_at frame us) other ∙ text_up_to frame last us all.1 less

text_from : (frame : ℕ) (g : CaptionLoad) (us : List (Command × ℕ)) → AllByRecursion (IsTextOf g) us → frame < g.first → is_text_at frame us ≡ false
text_from frame g [] all less = refl
text_from frame g (u ∷ us) all less =
    let first = all.0.behind in
    let other : (u.1 == frame) ≡ false = grind (arith, nat_tests) in
    ap (λ (b : Bool). b || is_text_at frame us) other ∙ text_from frame g us all.1 less

pub text_behind : (frame : ℕ) (g : CaptionLoad) (us : List (Command × ℕ)) → AllByRecursion (IsTextOf g) us → is_text_at frame us ≡ true
    → (g.first ≤ frame) × Unfinished frame us
text_behind frame g [] all some = cc
text_behind frame g (u ∷ us) all some = at (u.1 == frame) refl some (text_behind frame g us all.1)
  where
    at : (b : Bool) → (u.1 == frame) ≡ b → (b || is_text_at frame us) ≡ true
        → (is_text_at frame us ≡ true → (g.first ≤ frame) × Unfinished frame us) → (g.first ≤ frame) × Unfinished frame (u ∷ us)
    at true is some rest =
        let here : u.1 ≡ frame = eqb-true u.1 frame is in
        let low = all.0.behind in (omega arith, inl (omega arith))
    at false is some rest = let r = rest some in (r.0, inr r.1)

-- unfinished text, and the frame before
pub unfinished_less : (frame : ℕ) (us : List (Command × ℕ)) → Unfinished (suc frame) us → Unfinished frame us
unfinished_less frame [] un = un
unfinished_less frame (u ∷ us) (inl here) = inl (omega arith)
unfinished_less frame (u ∷ us) (inr rest) = inr (unfinished_less frame us rest)

unfinished_most : (frame last : ℕ) (us : List (Command × ℕ)) → AllByRecursion (λ (u : Command × ℕ). u.1 ≤ last) us → Unfinished frame us → frame ≤ last
unfinished_most frame last [] all un = absurd un
unfinished_most frame last (u ∷ us) all (inl here) = let first : u.1 ≤ last = all.0 in omega arith
unfinished_most frame last (u ∷ us) all (inr rest) = unfinished_most frame last us all.1 rest

pub texts_of : (g : CaptionLoad) (us : List (Command × ℕ)) → AllByRecursion (IsTextOf g) us → AreTexts us
texts_of g [] all = tt
texts_of g (u ∷ us) all = (all.0.text, texts_of g us all.1)

-- nothing stands in a frame after all of it, or before its first
none_behind : (frame : ℕ) (g h : CaptionLoad) → IsBefore g h → h.first < frame → is_at frame g ≡ false
none_behind frame g h is less =
    let low = is.first in
    let other : (g.first == frame) ≡ false = grind (arith, nat_tests) in
    ap (λ (b : Bool). b || is_text_at frame g.text) other ∙ text_up_to frame h.first g.text is.text less

none_before : (frame : ℕ) (h : CaptionLoad) → IsOrdered h → frame < h.first → is_at frame h ≡ false
none_before frame h is less =
    let other : (h.first == frame) ≡ false = grind (arith, nat_tests) in
    ap (λ (b : Bool). b || is_text_at frame h.text) other ∙ text_from frame h h.text is.texts less

-- a caption's own part of a frame
pub own_acts : (frame : ℕ) (g : CaptionLoad) (s : ScreenState) → IsOrdered g
    → (g.first < frame → Unfinished frame g.text → s.current ≡ Some g.caption.id)
    → LoadActs (g.first == frame) frame g.caption.id g.definition g.text s
own_acts frame g s is current =
    load_acts_so (g.first == frame) frame g.caption.id g.definition g.text s is.window (texts_of g g.text is.texts)
    (λ other some.
    let behind = text_behind frame g g.text is.texts some in
    let low : g.first ≤ frame = behind.0 in
    let less : g.first < frame = grind (arith, nat_tests) in
    current less behind.1)

-- captions that come later than a frame
pub later_idle : (frame : ℕ) (gs : List CaptionLoad) (s : ScreenState) → AreInOrder gs → AllByRecursion (λ (h : CaptionLoad). frame < h.first) gs
    → loads_act frame gs s ≡ s
later_idle frame [] s order late = refl
later_idle frame (h ∷ gs) s order late =
    let low : frame < h.first = late.0 in
    let acts = own_acts frame h s order.0 (λ less un. absurd (omega arith)) in
    ap (loads_act frame gs) (acts.idle (none_before frame h order.0 low)) ∙ later_idle frame gs s order.2 late.1

pub all_later : (frame : ℕ) (g : CaptionLoad) (gs : List CaptionLoad) → AllByRecursion (IsBefore g) gs → Unfinished (suc frame) g.text
    → AllByRecursion (λ (h : CaptionLoad). frame < h.first) gs
all_later frame g [] all un = tt
all_later frame g (h ∷ gs) all un =
    let most = unfinished_most (suc frame) h.first g.text all.0.text un in (omega arith, all_later frame g gs all.1 un)

pub among_all : (P : CaptionLoad → Type 0) (gs : List CaptionLoad) (g : CaptionLoad) → AllByRecursion P gs → Among g gs → P g
among_all P [] g all among = absurd among
among_all P (h ∷ gs) g all (inl same) = subst P (sym same) all.0
among_all P (h ∷ gs) g all (inr rest) = among_all P gs g all.1 rest

-- a frame of loads
pub record FrameLoads (frame : ℕ) (gs : List CaptionLoad) (s : ScreenState) : Type 0 where
  pub windows : (i : ℕ) → (loads_act frame gs s).windows i ≡ all_edits frame i gs (s.windows i)
  pub current : IsCurrent (suc frame) gs (loads_act frame gs s)

-- the first caption of a list, after a frame
first_current : (frame : ℕ) (g : CaptionLoad) (gs : List CaptionLoad) (s : ScreenState) → AreInOrder (g ∷ gs)
    → LoadActs (g.first == frame) frame g.caption.id g.definition g.text s
    → (g.first < frame → Unfinished frame g.text → s.current ≡ Some g.caption.id)
    → g.first < suc frame → Unfinished (suc frame) g.text → (loads_act frame gs (load_acts frame g s)).current ≡ Some g.caption.id
first_current frame g gs s order acts current begun un =
    ap (λ (t : ScreenState). t.current) (later_idle frame gs (load_acts frame g s) order.2 (all_later frame g gs order.1 un)) ∙ at (is_at frame g) refl
  where
    not_first : is_at frame g ≡ false → (g.first == frame) ≡ false
    not_first none = at_first (g.first == frame) none
      where
        at_first : (b : Bool) → (b || is_text_at frame g.text) ≡ false → b ≡ false
        at_first true none = none
        at_first false none = refl

    at : (b : Bool) → is_at frame g ≡ b → (load_acts frame g s).current ≡ Some g.caption.id
    at true some = acts.busy some
    at false none =
        let other = not_first none in
        let less : g.first < frame = grind (arith, nat_tests) in
        ap (λ (t : ScreenState). t.current) (acts.idle none) ∙ current less (unfinished_less frame g.text un)

pub frame_loads : (frame : ℕ) (gs : List CaptionLoad) (s : ScreenState) → AreInOrder gs → IsCurrent frame gs s → FrameLoads frame gs s
frame_loads frame [] s order current = record { windows = λ i. refl; current = λ g among. absurd among }
frame_loads frame (g ∷ gs) s order current =
    let acts = own_acts frame g s order.0 (current g (inl refl)) in
    let t : ScreenState = load_acts frame g s in
    let rest = frame_loads frame gs t order.2 (λ h among begun un.
    let is = among_all (IsBefore g) gs h order.1 among in
    ap (λ (u : ScreenState). u.current) (acts.idle (none_behind frame g h is begun)) ∙ current h (inr among) begun un) in
    record {
      windows = λ i. rest.windows i ∙ ap (all_edits frame i gs) (acts.windows i);
      current = behind rest;
    }
  where
    behind : FrameLoads frame gs (load_acts frame g s) → IsCurrent (suc frame) (g ∷ gs) (loads_act frame gs (load_acts frame g s))
    behind rest h (inl same) begun un =
        subst (λ (k : CaptionLoad). k.first < suc frame → Unfinished (suc frame) k.text → (loads_act frame gs (load_acts frame g s)).current ≡ Some k.caption.id)
        (sym same) (first_current frame g gs s order (own_acts frame g s order.0 (current g (inl refl))) (current g (inl refl))) begun un
    behind rest h (inr among) begun un = rest.current h among begun un
