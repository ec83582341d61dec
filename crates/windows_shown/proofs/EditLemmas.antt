-- What the frames make of the window of a caption: in each frame its own commands there, and before a frame all that stood before.
use Rattle.std.proofs.Common.{◌≡◌, ◌∙◌, ℕ, suc, ◌<◌, ◌≤◌, inl, inr, ◌==◌, ◌||◌, Bool, true, false, if◌then◌else◌, List, [], ◌∷◌, Option, Some, refl, sym, ap, arith}
use Rattle.std.specs.Prelude.{nat_lt, option_map}
use Rattle.std.specs.List.{AllByRecursion}
use Rattle.std.proofs.lemmas.Bool.{cases_lt, eqb-true}
use Rattle.std.proofs.lemmas.Bool.Decides.{nat_tests}
use Rattle.cc_base.specs.declared.rate.Rate.{Rate}
use Rattle.dtvcc_codes.specs.declared.commands.Command.{Command}
use Rattle.dtvcc_windows.specs.Defining.{defined}
use Rattle.dtvcc_windows.specs.Windows.{WindowState}
use Rattle.dtvcc_screen.specs.Commands.{edited_by}
use Rattle.dtvcc_author.specs.Kept.{AreKept}
use Rattle.windows_shown.proofs.CaptionLoads.{AreInOrder, AreRising, Among, CaptionLoad, IsOrdered, IsTextOf, all_edits, before, captions, edits, in_frame, is_text_at, own_edits}
use Rattle.windows_shown.proofs.MemberLemmas.{each_follows}
use Rattle.windows_shown.proofs.TextLemmas.{idle_edits}

-- all that loads a caption
abbrev pub all_frames : ℕ → Bool
all_frames f = true

-- nothing stands before its first frame, and before one after all of it everything does
edits_early : (frame : ℕ) (us : List (Command × ℕ)) (w : Option WindowState) → AllByRecursion (λ (u : Command × ℕ). frame ≤ u.1) us → edits (before frame) us w ≡ w
edits_early frame [] w all = refl
edits_early frame (u ∷ us) w all =
    let first : frame ≤ u.1 = all.0 in
    let late : nat_lt u.1 frame ≡ false = grind (arith, nat_tests) in
    ap (λ (b : Bool). edits (before frame) us (if b then option_map (edited_by u.0) w else w)) late ∙ edits_early frame us w all.1

edits_late : (g : CaptionLoad) (frame : ℕ) (us : List (Command × ℕ)) (w : Option WindowState) → AllByRecursion (IsTextOf g) us → g.caption.starts ≤ frame
    → edits (before frame) us w ≡ edits all_frames us w
edits_late g frame [] w all late = refl
edits_late g frame (u ∷ us) w all late =
    let ended = all.0.ended in
    let early : nat_lt u.1 frame ≡ true = grind (arith, nat_tests) in
    ap (λ (b : Bool). edits (before frame) us (if b then option_map (edited_by u.0) w else w)) early
    ∙ edits_late g frame us (option_map (edited_by u.0) w) all.1 late

-- one frame more
edits_more : (frame : ℕ) (us : List (Command × ℕ)) (w : Option WindowState) → AreRising us
    → edits (before (suc frame)) us w ≡ edits (in_frame frame) us (edits (before frame) us w)
edits_more frame [] w rising = refl
edits_more frame (u ∷ us) w rising =
    let edit : Option WindowState = option_map (edited_by u.0) w in
    elim (cases_lt u.1 frame) [
      | inl low ↦
          let next : nat_lt u.1 (suc frame) ≡ true = grind (arith, nat_tests) in
          let past : nat_lt u.1 frame ≡ true = grind (arith, nat_tests) in
          let other : (u.1 == frame) ≡ false = grind (arith, nat_tests) in
          ap (λ (b : Bool). edits (before (suc frame)) us (if b then edit else w)) next
          ∙ edits_more frame us edit rising.1
          ∙ ap (λ (b : Bool). edits (in_frame frame) us (edits (before frame) us (if b then edit else w))) (sym past)
          ∙ ap (λ (b : Bool). edits (in_frame frame) us
          (if b then option_map (edited_by u.0) (edits (before frame) us (if nat_lt u.1 frame then edit else w)) else edits (before frame) us (if nat_lt u.1 frame then edit else w))) (sym other)
      | inr high ↦
          let past : nat_lt u.1 frame ≡ false = grind (arith, nat_tests) in
          let none : edits (before frame) us w ≡ w = edits_early frame us w (at_least frame u.1 us high rising.0) in
          let left : edits (before frame) (u ∷ us) w ≡ w =
          ap (λ (b : Bool). edits (before frame) us (if b then edit else w)) past ∙ none in
          here (u.1 == frame) refl high (edits_more frame us w rising.1) (edits_more frame us edit rising.1)
          (edits_early frame us edit (at_least frame u.1 us high rising.0)) none
          ∙ ap (edits (in_frame frame) (u ∷ us)) (sym left)
    ]
  where
    at_least : (frame first : ℕ) (us : List (Command × ℕ)) → frame ≤ first → AllByRecursion (λ (v : Command × ℕ). first ≤ v.1) us
        → AllByRecursion (λ (v : Command × ℕ). frame ≤ v.1) us
    at_least frame first [] low all = tt
    at_least frame first (v ∷ us) low all = let one : first ≤ v.1 = all.0 in (omega arith, at_least frame first us low all.1)

    here : (b : Bool) → (u.1 == frame) ≡ b → frame ≤ u.1
        → edits (before (suc frame)) us w ≡ edits (in_frame frame) us (edits (before frame) us w)
        → edits (before (suc frame)) us (option_map (edited_by u.0) w) ≡ edits (in_frame frame) us (edits (before frame) us (option_map (edited_by u.0) w))
        → edits (before frame) us (option_map (edited_by u.0) w) ≡ option_map (edited_by u.0) w
        → edits (before frame) us w ≡ w
        → edits (before (suc frame)) (u ∷ us) w ≡ edits (in_frame frame) us (if b then option_map (edited_by u.0) w else w)
    here true is low rest more none_more none =
        let same : u.1 ≡ frame = eqb-true u.1 frame is in
        let next : nat_lt u.1 (suc frame) ≡ true = grind (arith, nat_tests) in
        ap (λ (b : Bool). edits (before (suc frame)) us (if b then option_map (edited_by u.0) w else w)) next
        ∙ more ∙ ap (edits (in_frame frame) us) none_more
    here false is low rest more none_more none =
        let next : nat_lt u.1 (suc frame) ≡ false = grind (arith, nat_tests) in
        ap (λ (b : Bool). edits (before (suc frame)) us (if b then option_map (edited_by u.0) w else w)) next
        ∙ rest ∙ ap (edits (in_frame frame) us) none

-- the text of a caption stands from its DefineWindow on
texts_from : (g : CaptionLoad) (frame : ℕ) (us : List (Command × ℕ)) → AllByRecursion (IsTextOf g) us → frame ≤ g.first
    → AllByRecursion (λ (u : Command × ℕ). frame ≤ u.1) us
texts_from g frame [] all low = tt
texts_from g frame (u ∷ us) all low = let behind = all.0.behind in (omega arith, texts_from g frame us all.1 low)

-- the same of all that loads a caption
pub own_early : (frame : ℕ) (g : CaptionLoad) (w : Option WindowState) → IsOrdered g → frame ≤ g.first → own_edits (before frame) g w ≡ w
own_early frame g w is low =
    let late : nat_lt g.first frame ≡ false = grind (arith, nat_tests) in
    ap (λ (b : Bool). edits (before frame) g.text (if b then Some (defined g.definition w) else w)) late
    ∙ edits_early frame g.text w (texts_from g frame g.text is.texts low)

pub own_late : (frame : ℕ) (g : CaptionLoad) (w : Option WindowState) → IsOrdered g → g.caption.starts ≤ frame
    → own_edits (before frame) g w ≡ own_edits all_frames g w
own_late frame g w is late =
    let ended = is.ended in
    let early : nat_lt g.first frame ≡ true = grind (arith, nat_tests) in
    ap (λ (b : Bool). edits (before frame) g.text (if b then Some (defined g.definition w) else w)) early
    ∙ edits_late g frame g.text (Some (defined g.definition w)) is.texts late

pub own_more : (frame : ℕ) (g : CaptionLoad) (w : Option WindowState) → IsOrdered g
    → own_edits (before (suc frame)) g w ≡ own_edits (in_frame frame) g (own_edits (before frame) g w)
own_more frame g w is =
    let made : Option WindowState = Some (defined g.definition w) in
    elim (cases_lt g.first frame) [
      | inl low ↦
          let next : nat_lt g.first (suc frame) ≡ true = grind (arith, nat_tests) in
          let past : nat_lt g.first frame ≡ true = grind (arith, nat_tests) in
          let other : (g.first == frame) ≡ false = grind (arith, nat_tests) in
          let so_far : own_edits (before frame) g w ≡ edits (before frame) g.text made =
          ap (λ (b : Bool). edits (before frame) g.text (if b then made else w)) past in
          ap (λ (b : Bool). edits (before (suc frame)) g.text (if b then made else w)) next
          ∙ edits_more frame g.text made is.rising
          ∙ ap (edits (in_frame frame) g.text) (sym so_far)
          ∙ ap (λ (b : Bool). edits (in_frame frame) g.text (if b then Some (defined g.definition (own_edits (before frame) g w)) else own_edits (before frame) g w)) (sym other)
      | inr high ↦
          let texts = texts_from g frame g.text is.texts high in
          let left = own_early frame g w is high in
          here (g.first == frame) refl high texts ∙ ap (own_edits (in_frame frame) g) (sym left)
    ]
  where
    here : (b : Bool) → (g.first == frame) ≡ b → frame ≤ g.first → AllByRecursion (λ (u : Command × ℕ). frame ≤ u.1) g.text
        → own_edits (before (suc frame)) g w ≡ edits (in_frame frame) g.text (if b then Some (defined g.definition w) else w)
    here true is_here low texts =
        let made : Option WindowState = Some (defined g.definition w) in
        let same : g.first ≡ frame = eqb-true g.first frame is_here in
        let next : nat_lt g.first (suc frame) ≡ true = grind (arith, nat_tests) in
        ap (λ (b : Bool). edits (before (suc frame)) g.text (if b then made else w)) next
        ∙ edits_more frame g.text made is.rising ∙ ap (edits (in_frame frame) g.text) (edits_early frame g.text made texts)
    here false is_here low texts =
        let next : nat_lt g.first (suc frame) ≡ false = grind (arith, nat_tests) in
        ap (λ (b : Bool). edits (before (suc frame)) g.text (if b then Some (defined g.definition w) else w)) next
        ∙ edits_more frame g.text w is.rising ∙ ap (edits (in_frame frame) g.text) (edits_early frame g.text w texts)

-- a caption has nothing in a frame before its LOAD, or from what shows it on
texts_elsewhere : (g : CaptionLoad) (frame : ℕ) (us : List (Command × ℕ)) → AllByRecursion (IsTextOf g) us → (g.first ≤ frame → frame < g.caption.starts → ⊥)
    → is_text_at frame us ≡ false
texts_elsewhere g frame [] all out = refl
texts_elsewhere g frame (u ∷ us) all out = at (u.1 == frame) refl (texts_elsewhere g frame us all.1 out)
  where
    at : (b : Bool) → (u.1 == frame) ≡ b → is_text_at frame us ≡ false → (b || is_text_at frame us) ≡ false
    at false is rest = rest
    at true is rest =
        let same : u.1 ≡ frame = eqb-true u.1 frame is in
        let behind = all.0.behind in
        let ended = all.0.ended in
        absurd (out (omega arith) (omega arith))

own_elsewhere : (g : CaptionLoad) (frame : ℕ) (w : Option WindowState) → IsOrdered g → (g.caption.load ≤ frame → frame < g.caption.starts → ⊥)
    → own_edits (in_frame frame) g w ≡ w
own_elsewhere g frame w is out =
    ap (λ (b : Bool). edits (in_frame frame) g.text (if b then Some (defined g.definition w) else w)) (at (g.first == frame) refl)
    ∙ idle_edits frame g.text w (texts_elsewhere g frame g.text is.texts (λ low high. let loaded = is.loaded in out (omega arith) high))
  where
    at : (b : Bool) → (g.first == frame) ≡ b → b ≡ false
    at false same = refl
    at true same =
        let here : g.first ≡ frame = eqb-true g.first frame same in
        let loaded = is.loaded in
        let ended = is.ended in
        absurd (out (omega arith) (omega arith))

-- where no caption of a window is loading, the frame makes nothing of it
pub edits_none : (frame id : ℕ) (gs : List CaptionLoad) (w : Option WindowState) → AreInOrder gs
    → ((g : CaptionLoad) → Among g gs → g.caption.id ≡ id → g.caption.load ≤ frame → frame < g.caption.starts → ⊥) → all_edits frame id gs w ≡ w
edits_none frame id [] w order none = refl
edits_none frame id (g ∷ gs) w order none =
    ap (all_edits frame id gs) (at (id == g.caption.id) refl) ∙ edits_none frame id gs w order.2 (λ h among. none h (inr among))
  where
    at : (b : Bool) → (id == g.caption.id) ≡ b → (if b then own_edits (in_frame frame) g w else w) ≡ w
    at false other = refl
    at true same = own_elsewhere g frame w order.0 (none g (inl refl) (sym (eqb-true id g.caption.id same)))

-- where one is, it makes what the caption's own commands in the frame make
pub edits_own : (rate : Rate) (frames frame id : ℕ) (gs : List CaptionLoad) (g : CaptionLoad) (w : Option WindowState) → AreKept rate frames (captions gs)
    → AreInOrder gs → Among g gs → g.caption.id ≡ id → g.caption.load ≤ frame → frame < g.caption.hide → all_edits frame id gs w ≡ own_edits (in_frame frame) g w
edits_own rate frames frame id [] g w kept order among window low high = absurd among
edits_own rate frames frame id (h ∷ gs) g w kept order (inl same) window low high =
    ap (λ (b : Bool). all_edits frame id gs (if b then own_edits (in_frame frame) h w else w)) its
    ∙ edits_none frame id gs (own_edits (in_frame frame) h w) order.2
    (λ k among is from to.
    let behind = each_follows h.caption gs k kept.1 among in
    let gone : h.caption.hide ≤ k.caption.load = behind.vacated (is ∙ sym window ∙ ap (λ (x : CaptionLoad). x.caption.id) same) in
    let one : g.caption.hide ≡ h.caption.hide = ap (λ (x : CaptionLoad). x.caption.hide) same in
    omega arith)
    ∙ ap (λ (x : CaptionLoad). own_edits (in_frame frame) x w) (sym same)
  where
    its : (id == h.caption.id) ≡ true
    its = let is : id ≡ h.caption.id = sym window ∙ ap (λ (x : CaptionLoad). x.caption.id) same in grind (arith, nat_tests)
edits_own rate frames frame id (h ∷ gs) g w kept order (inr among) window low high =
    ap (all_edits frame id gs) (at (id == h.caption.id) refl) ∙ edits_own rate frames frame id gs g w kept.2 order.2 among window low high
  where
    at : (b : Bool) → (id == h.caption.id) ≡ b → (if b then own_edits (in_frame frame) h w else w) ≡ w
    at false other = refl
    at true same =
        let behind = each_follows h.caption gs g kept.1 among in
        let gone : h.caption.hide ≤ g.caption.load = behind.vacated (window ∙ eqb-true id h.caption.id same) in
        let sound = kept.0 in
        let after = sound.after in
        let hidden = sound.hidden in
        own_elsewhere h frame w order.0 (λ from to. omega arith)
