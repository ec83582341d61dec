-- What is heard of captions where nothing is of the frames before one, as after a reset: of a caption whose DefineWindow stands
-- before that frame nothing, of another all. What stands in a later frame to load captions does as much: text of a caption whose
-- window was defined before goes nowhere, and the window of another that is loading stays current.
use Rattle.std.proofs.Common.{◌≡◌, ◌∙◌, ℕ, suc, ◌<◌, ◌≤◌, ◌==◌, nat_lt, inl, inr, Bool, true, false, if◌then◌else◌, List, [], ◌∷◌, Option, Some, None, refl, sym, ap, subst, arith}
use Rattle.std.specs.Prelude.{option_map}
use Rattle.std.proofs.lemmas.Bool.{cases_lt, eqb-true}
use Rattle.std.proofs.lemmas.Bool.Decides.{nat_tests}
use Rattle.dtvcc_codes.specs.declared.commands.Command.{Command}
use Rattle.dtvcc_windows.specs.Defining.{defined}
use Rattle.dtvcc_windows.specs.Windows.{WindowState}
use Rattle.dtvcc_screen.specs.Commands.{edited_by, on_screen, with_definition}
use Rattle.dtvcc_screen.specs.Screens.{ScreenState, on_window}
use Rattle.windows_shown.proofs.CaptionLoads.{AreInOrder, Among, CaptionLoad, IsBefore, all_edits, edits, in_frame, is_text_at, load_acts, loads_act, own_edits, text_acts}
use Rattle.windows_shown.proofs.LoadLemmas.{Unfinished, all_later, among_all, frame_loads, later_idle, text_behind, texts_of, unfinished_less}
use Rattle.windows_shown.proofs.TextLemmas.{AreTexts, idle_edits, idle_text, text_goes}

-- what is heard of a caption: nothing, where its DefineWindow stands before a frame
abbrev pub if_heard : {T : Type 0} → ℕ → CaptionLoad → Option T → Option T
if_heard since g x = if nat_lt g.first since then None else x

pub is_lost : {T : Type 0} (since : ℕ) (g : CaptionLoad) (x : Option T) → g.first < since → if_heard since g x ≡ None
is_lost since g x low = let test : nat_lt g.first since ≡ true = grind (arith, nat_tests) in rw test refl

pub is_heard : {T : Type 0} (since : ℕ) (g : CaptionLoad) (x : Option T) → since ≤ g.first → if_heard since g x ≡ x
is_heard since g x high = let test : nat_lt g.first since ≡ false = grind (arith, nat_tests) in rw test refl

none_both : {T : Type 0} → (b : Bool) (x : Option T) → x ≡ None → (if b then None else x) ≡ None
none_both true x none = refl
none_both false x none = none

pub heard_none : {T : Type 0} (since : ℕ) (g : CaptionLoad) → if_heard {T = T} since g None ≡ None
heard_none since g = none_both (nat_lt g.first since) None refl

pub heard_map : {T U : Type 0} (f : T → U) (since : ℕ) (g : CaptionLoad) (x : Option T) → option_map f (if_heard since g x) ≡ if_heard since g (option_map f x)
heard_map {T} {U} f since g x = at (nat_lt g.first since)
  where
    at : (b : Bool) → option_map f (if b then None else x) ≡ (if b then None else option_map f x)
    at true = refl
    at false = refl

-- text makes nothing of a window that isn't there
edits_nothing : (test : ℕ → Bool) (us : List (Command × ℕ)) → edits test us None ≡ None
edits_nothing test [] = refl
edits_nothing test (u ∷ us) = ap (edits test us) (at (test u.1)) ∙ edits_nothing test us
  where
    at : (b : Bool) → (if b then option_map (edited_by u.0) None else None) ≡ None
    at true = refl
    at false = refl

pub heard_edits : (since frame : ℕ) (g : CaptionLoad) (x : Option WindowState) → since ≤ frame
    → own_edits (in_frame frame) g (if_heard since g x) ≡ if_heard since g (own_edits (in_frame frame) g x)
heard_edits since frame g x low = elim (cases_lt g.first since) [
  | inr high ↦ ap (own_edits (in_frame frame) g) (is_heard since g x high) ∙ sym (is_heard since g (own_edits (in_frame frame) g x) high)
  | inl less ↦
      let other : (g.first == frame) ≡ false = grind (arith, nat_tests) in
      ap (own_edits (in_frame frame) g) (is_lost since g x less)
      ∙ ap (λ (b : Bool). edits (in_frame frame) g.text (if b then Some (defined g.definition None) else None)) other
      ∙ edits_nothing (in_frame frame) g.text ∙ sym (is_lost since g (own_edits (in_frame frame) g x) less)
]

-- text without a current window does nothing
text_lost : (frame : ℕ) (us : List (Command × ℕ)) (s : ScreenState) → AreTexts us → s.current ≡ None → text_acts frame us s ≡ s
text_lost frame [] s texts none = refl
text_lost frame (u ∷ us) s texts none = at (u.1 == frame) (text_lost frame us s texts.1 none)
  where
    same : on_screen u.0 s ≡ s
    same = text_goes u.0 s texts.0 ∙ ap (λ (o : Option ℕ). record s { windows = on_window o (edited_by u.0) s.windows }) none

    at : (b : Bool) → text_acts frame us s ≡ s → text_acts frame us (if b then on_screen u.0 s else s) ≡ s
    at true rest = ap (text_acts frame us) same ∙ rest
    at false rest = rest

-- the window of a caption that has begun to load, and isn't loaded, is current, or none is
abbrev pub IsHeardCurrent : ℕ → ℕ → List CaptionLoad → ScreenState → Type 0
IsHeardCurrent since frame gs s = (g : CaptionLoad) → Among g gs → g.first < frame → Unfinished frame g.text → s.current ≡ if_heard since g (Some g.caption.id)

-- the window of one that is lost, and isn't loaded, isn't there
abbrev pub IsBare : ℕ → ℕ → List CaptionLoad → ScreenState → Type 0
IsBare since frame gs s = (g : CaptionLoad) → Among g gs → g.first < since → Unfinished frame g.text → s.windows g.caption.id ≡ None

-- a frame of loads
pub record FrameHeard (since frame : ℕ) (gs : List CaptionLoad) (s : ScreenState) : Type 0 where
  pub windows : (i : ℕ) → (loads_act frame gs s).windows i ≡ all_edits frame i gs (s.windows i)
  pub current : IsHeardCurrent since (suc frame) gs (loads_act frame gs s)

-- a caption that is lost
module _ (since frame : ℕ) (low : since ≤ frame) (g : CaptionLoad) (gs : List CaptionLoad) (s : ScreenState) (order : AreInOrder (g ∷ gs))
    (current : IsHeardCurrent since frame (g ∷ gs) s) (bare : IsBare since frame (g ∷ gs) s) (less : g.first < since) where
  not_first : (g.first == frame) ≡ false
  not_first = grind (arith, nat_tests)

  none_current : Unfinished frame g.text → s.current ≡ None
  none_current un = current g (inl refl) (omega arith) un ∙ is_lost since g (Some g.caption.id) less

  lost_acts : load_acts frame g s ≡ s
  lost_acts =
      ap (λ (b : Bool). text_acts frame g.text (if b then with_definition g.definition s else s)) not_first
      ∙ at (is_text_at frame g.text) refl
    where
      at : (b : Bool) → is_text_at frame g.text ≡ b → text_acts frame g.text s ≡ s
      at true some = text_lost frame g.text s (texts_of g g.text order.0.texts) (none_current (text_behind frame g g.text order.0.texts some).1)
      at false none = idle_text frame g.text s none

  lost_edits : own_edits (in_frame frame) g (s.windows g.caption.id) ≡ s.windows g.caption.id
  lost_edits =
      ap (λ (b : Bool). edits (in_frame frame) g.text (if b then Some (defined g.definition (s.windows g.caption.id)) else s.windows g.caption.id)) not_first
      ∙ at (is_text_at frame g.text) refl
    where
      at : (b : Bool) → is_text_at frame g.text ≡ b → edits (in_frame frame) g.text (s.windows g.caption.id) ≡ s.windows g.caption.id
      at true some =
          let gone : s.windows g.caption.id ≡ None = bare g (inl refl) less (text_behind frame g g.text order.0.texts some).1 in
          ap (edits (in_frame frame) g.text) gone ∙ edits_nothing (in_frame frame) g.text ∙ sym gone
      at false none = idle_edits frame g.text (s.windows g.caption.id) none

  lost_one : (i : ℕ) (b : Bool) → (i == g.caption.id) ≡ b → (if b then own_edits (in_frame frame) g (s.windows i) else s.windows i) ≡ s.windows i
  lost_one i false other = refl
  lost_one i true same = subst (λ n. own_edits (in_frame frame) g (s.windows n) ≡ s.windows n) (sym (eqb-true i g.caption.id same)) lost_edits

  lost_frame : FrameHeard since frame gs s → FrameHeard since frame (g ∷ gs) s
  lost_frame rest = record {
    windows = λ i.
        ap (λ (t : ScreenState). (loads_act frame gs t).windows i) lost_acts ∙ rest.windows i
        ∙ ap (all_edits frame i gs) (sym (lost_one i (i == g.caption.id) refl));
    current = behind;
  }
    where
      acts_on : loads_act frame (g ∷ gs) s ≡ loads_act frame gs s
      acts_on = ap (loads_act frame gs) lost_acts

      behind : IsHeardCurrent since (suc frame) (g ∷ gs) (loads_act frame (g ∷ gs) s)
      behind h (inr among) begun un = ap (λ (t : ScreenState). t.current) acts_on ∙ rest.current h among begun un
      behind h (inl same) begun un =
          let un_g : Unfinished (suc frame) g.text = subst (λ (k : CaptionLoad). Unfinished (suc frame) k.text) same un in
          let lost : h.first < since = subst (λ (k : CaptionLoad). k.first < since) (sym same) less in
          ap (λ (t : ScreenState). t.current) (acts_on ∙ later_idle frame gs s order.2 (all_later frame g gs order.1 un_g))
          ∙ none_current (unfinished_less frame g.text un_g) ∙ sym (is_lost since h (Some h.caption.id) lost)

pub frame_heard : (since frame : ℕ) (gs : List CaptionLoad) (s : ScreenState) → since ≤ frame → AreInOrder gs → IsHeardCurrent since frame gs s → IsBare since frame gs s
    → FrameHeard since frame gs s
frame_heard since frame [] s low order current bare = record { windows = λ i. refl; current = λ g among. absurd among }
frame_heard since frame (g ∷ gs) s low order current bare = elim (cases_lt g.first since) [
  | inl less ↦ lost_frame since frame low g gs s order current bare less
      (frame_heard since frame gs s low order.2 (λ h among begun un. current h (inr among) begun un) (λ h among less un. bare h (inr among) less un))
  | inr high ↦
      let heard : (h : CaptionLoad) → Among h (g ∷ gs) → since ≤ h.first = λ h among. all_high high h among in
      let all = frame_loads frame (g ∷ gs) s order (λ h among begun un. current h among begun un ∙ is_heard since h (Some h.caption.id) (heard h among)) in
      record {
        windows = all.windows;
        current = λ h among begun un. all.current h among begun un ∙ sym (is_heard since h (Some h.caption.id) (heard h among));
      }
]
  where
    all_high : since ≤ g.first → (h : CaptionLoad) → Among h (g ∷ gs) → since ≤ h.first
    all_high high h (inl same) = subst (λ (k : CaptionLoad). since ≤ k.first) (sym same) high
    all_high high h (inr among) = let is = among_all (IsBefore g) gs h order.1 among in let first = is.first in omega arith
