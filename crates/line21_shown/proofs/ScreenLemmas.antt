-- What the screen of a channel has before a frame, and what the earlier cues show from then on.
use Rattle.std.proofs.Common.{◌≡◌, ℕ, suc, ◌<◌, ◌≤◌, Bool, true, false, nat_le, nat_lt, List, [], ◌∷◌, ◌++◌, Option, Some, None, refl, sym, ap, ◌∙◌, subst, arith, append_assoc, reverse}
use Rattle.std.specs.Prelude.{⊤, if◌then◌else◌, IfSome}
use Rattle.std.specs.List.{AllByRecursion}
use Rattle.std.proofs.lemmas.Bool.Decides.{nat_tests}
use Rattle.cue_lists.specs.AuthoredGrid.{shown_by, shown_from, shown_of_newest}
use Rattle.cue_lists.specs.Hide.{hide_is}
use Rattle.cue_lists.specs.Line21Cues.{base_row}
use Rattle.cue_lists.specs.declared.cue.Cue.{Cue}
use Rattle.cue_lists.specs.declared.cue.Kind.{Kind}
use Rattle.cue_lists.specs.declared.cue.Kind.TheVariants as kind
use Rattle.line21_screen.specs.Channels.{ChannelState}
use Rattle.line21_screen.specs.Grid.{Grid, empty_grid}
use Rattle.cue_lists.specs.Rules.Sentences.{AreInSequence, ComesAfter}
use Rattle.frame_scheduler.specs.Timeline.{Timeline}
use Rattle.cue_lists.proofs.LaneCues.{reverse-cons}
use Rattle.line21_shown.specs.Reading.{acts}
use Rattle.line21_shown.proofs.HeadLemmas.{first_sound}
use Rattle.line21_shown.proofs.LoadingLemmas.{until}
use Rattle.line21_shown.proofs.RollWritingLemmas.{IsRolling}

-- after a roll-up cue roll-up captions of its rows are under way on its base row, and show this
abbrev pub IsRollingFor : Kind → ℕ → Grid → ChannelState → Type 0
IsRollingFor (kind.Pop channel) base g s = ⊤
IsRollingFor (kind.Paint channel) base g s = ⊤
IsRollingFor (kind.Roll channel rows) base g s = IsRolling rows base g s
IsRollingFor (kind.Win window) base g s = ⊤

-- the grid and its HIDE are the newest earlier cue's; before the first cue nothing is shown
abbrev pub IsOfNewest : Option ℕ → Grid → List Cue → ChannelState → Type 0
IsOfNewest hide g [] s = (hide ≡ None) × (g ≡ empty_grid)
IsOfNewest hide g (cue ∷ earlier) s = (hide ≡ cue.hide) × (g ≡ shown_from cue.kind cue earlier) × IsRollingFor cue.kind (base_row cue.runs) g s

-- before frame a the screen has a grid until its HIDE; and from a frame on that is what the earlier cues show
pub record IsShown (t : Timeline) (a from : ℕ) (hide : Option ℕ) (g : Grid) (earlier : List Cue) : Type 0 where
  pub displayed : (acts t a).displayed ≡ until hide a g
  pub newest : IsOfNewest hide g earlier (acts t a)
  pub on : (f : ℕ) → from ≤ f → shown_of_newest f (shown_by f earlier) ≡ until hide (suc f) g

-- the first of the cues comes after the newest of the earlier ones
abbrev pub AreBehind : List Cue → List Cue → Type 0
AreBehind [] cues = ⊤
AreBehind (former ∷ earlier) [] = ⊤
AreBehind (former ∷ earlier) (cue ∷ later) = ComesAfter 1 former cue

-- what is shown is hidden by the SHOW of the next cue
pub hidden_by : (hide : Option ℕ) (g : Grid) (earlier : List Cue) (s : ChannelState) (cue : Cue) (later : List Cue) → IsOfNewest hide g earlier s
    → AreBehind earlier (cue ∷ later) → IfSome hide (λ h. h ≤ cue.show)
hidden_by hide g [] s cue later is link = subst (λ o. IfSome o (λ h. h ≤ cue.show)) (sym is.0) tt
hidden_by hide g (former ∷ earlier) s cue later is link = subst (λ o. IfSome o (λ h. h ≤ cue.show)) (sym is.0) link.shown

-- cues in their order after earlier ones, all of them newest first
abbrev pub newest_first : List Cue → List Cue → List Cue
newest_first [] earlier = earlier
newest_first (cue ∷ later) earlier = newest_first later (cue ∷ earlier)

pub newest_first-reverse : (cues earlier : List Cue) → newest_first cues earlier ≡ reverse cues ++ earlier
newest_first-reverse [] earlier = refl
newest_first-reverse (cue ∷ later) earlier =
    newest_first-reverse later (cue ∷ earlier) ∙ sym (append_assoc (reverse later) (cue ∷ []) earlier)
    ∙ ap (λ (cues : List Cue). cues ++ earlier) (sym (reverse-cons cue later))

-- cues whose SHOW comes later aren't shown yet
abbrev AreLater : ℕ → List Cue → Type 0
AreLater f cues = AllByRecursion (λ (cue : Cue). f < cue.show) cues

pub not_shown_yet : (f : ℕ) (cues earlier : List Cue) → AreLater f cues → shown_by f (newest_first cues earlier) ≡ shown_by f earlier
not_shown_yet f [] earlier later = refl
not_shown_yet f (cue ∷ cues) earlier later =
    let above : f < cue.show = later.0 in
    let test : nat_le cue.show f ≡ false = grind (arith, nat_tests) in
    not_shown_yet f cues (cue ∷ earlier) later.1 ∙ rw test refl

-- the cues after a cue that isn't shown yet aren't either
pub all_later : (step frames f : ℕ) (cue : Cue) (later : List Cue) → AreInSequence step frames (cue ∷ later) → f < cue.show → AreLater f (cue ∷ later)
all_later step frames f cue [] sequence above = (above, tt)
all_later step frames f cue (next ∷ later) sequence above =
    let behind : cue.show ≤ next.load = sequence.1.loaded in
    let shown : next.load < next.show = (first_sound step frames next later sequence.2).loaded in
    (above, all_later step frames f next later sequence.2 (omega arith))

-- before the SHOW of the first of the cues, what is shown is what the earlier ones show
pub shown_yet : (frames f : ℕ) (cue : Cue) (later earlier : List Cue) → AreInSequence 1 frames (cue ∷ later) → f < cue.show
    → shown_of_newest f (shown_by f earlier) ≡ shown_of_newest f (shown_by f (newest_first (cue ∷ later) earlier))
shown_yet frames f cue later earlier sequence below =
    ap (shown_of_newest f) (sym (not_shown_yet f (cue ∷ later) earlier (all_later 1 frames f cue later sequence below)))

-- a HIDE after a frame hides nothing yet
not_hidden_yet : (hide : Option ℕ) (n : ℕ) (g : Grid) → IfSome hide (λ h. n ≤ h) → until hide n g ≡ g
not_hidden_yet None n g hidden = refl
not_hidden_yet (Some h) n g hidden = let test : nat_lt h n ≡ false = grind (arith, nat_tests) in rw test refl

-- what is shown at a frame was, until its HIDE, before the next frame
shown_until : (hide : Option ℕ) (f : ℕ) (g : Grid) → (if hide_is hide (λ hide. nat_le hide f) then empty_grid else g) ≡ until hide (suc f) g
shown_until None f g = refl
shown_until (Some h) f g = go (nat_le h f) refl
  where
    go : (b : Bool) → nat_le h f ≡ b → (if nat_le h f then empty_grid else g) ≡ until (Some h) (suc f) g
    go true test = let past : nat_lt h (suc f) ≡ true = grind (arith, nat_tests) in rw (test, past) refl
    go false test = let past : nat_lt h (suc f) ≡ false = grind (arith, nat_tests) in rw (test, past) refl

-- a HIDE after SHOW is that frame or later
at_or_behind : (hide : Option ℕ) (show n : ℕ) → n ≤ suc show → IfSome hide (λ h. show < h) → IfSome hide (λ h. n ≤ h)
at_or_behind None show n low hidden = tt
at_or_behind (Some h) show n low hidden = omega arith

-- where a cue is shown before frame a, it is from its SHOW on
pub is_shown : (t : Timeline) (a : ℕ) (cue : Cue) (earlier : List Cue) → a ≤ suc cue.show → IfSome cue.hide (λ h. cue.show < h)
    → (acts t a).displayed ≡ shown_from cue.kind cue earlier → IsRollingFor cue.kind (base_row cue.runs) (shown_from cue.kind cue earlier) (acts t a)
    → IsShown t a cue.show cue.hide (shown_from cue.kind cue earlier) (cue ∷ earlier)
is_shown t a cue earlier low hidden shown rolling = record {
  displayed = shown ∙ sym (not_hidden_yet cue.hide a (shown_from cue.kind cue earlier) (at_or_behind cue.hide cue.show a low hidden));
  newest = (refl, refl, rolling);
  on = λ f from.
      let test : nat_le cue.show f ≡ true = grind (arith, nat_tests) in
      ap (shown_of_newest f) (let shown : shown_by f (cue ∷ earlier) ≡ cue ∷ earlier = rw test refl in shown)
      ∙ shown_until cue.hide f (shown_from cue.kind cue earlier);
}
