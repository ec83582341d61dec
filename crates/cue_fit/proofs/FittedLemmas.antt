-- Cues that are fitted, one more after those so far.
use Rattle.std.proofs.Common.{◌≡◌, ◌∙◌, ℕ, suc, ◌+◌, ◌<◌, Bool, true, false, List, [], ◌∷◌, ◌++◌, length, take, drop, drop-cons, get_or, reverse, Some, refl, sym, ap, subst}
use Rattle.std.specs.Prelude.{if◌then◌else◌}
use Rattle.std.proofs.lemmas.List.{length-reverse, take-append-drop, take_more}
use Rattle.cue_lists.specs.Lane.{kind_lane, on_lane}
use Rattle.cue_lists.specs.Listing.{Listing}
use Rattle.cue_lists.specs.Rules.Former.{former_cue}
use Rattle.cue_lists.specs.declared.cue.Cue.{Cue}
use Rattle.cue_lists.specs.declared.lane.Lane.{Lane}
use Rattle.cue_fit.specs.Fitted.{AreFitted, HasNoShow, IsShow, LacksShow}
use Rattle.cue_fit.specs.Shown.{hidden_in, takes_place, with_shown}

-- one more cue
pub fitted_more : (late : ℕ) (list : Listing) (earlier cues : List Cue) (cue : Cue) (fitted : List Cue) (frame : ℕ)
    → AreFitted late list earlier cues fitted → IsShow late list fitted cue frame
    → AreFitted late list earlier (cues ++ cue ∷ []) (with_shown frame cue fitted)
fitted_more late list earlier [] cue fitted frame are is =
    (frame, subst (λ (e : List Cue). IsShow late list e cue frame) are is, ap (λ (e : List Cue). with_shown frame cue e) are)
fitted_more late list earlier (c ∷ cs) cue fitted frame are is =
    (are.0, are.1, fitted_more late list (with_shown are.0 c earlier) cs cue fitted frame are.2 is)

-- they are as many
pub length_hidden : (frame : ℕ) (on : Lane) (cues : List Cue) → length (hidden_in frame on cues) ≡ length cues
length_hidden frame on [] = refl
length_hidden frame on (cue ∷ cues) = at (on_lane on cue) (length_hidden frame on cues)
  where
    at : (b : Bool) → length (hidden_in frame on cues) ≡ length cues
        → length (if b then record cue { hide = Some frame } ∷ cues else cue ∷ hidden_in frame on cues) ≡ suc (length cues)
    at true rest = refl
    at false rest = ap suc rest

pub length_shown : (frame : ℕ) (cue : Cue) (earlier : List Cue) → length (with_shown frame cue earlier) ≡ suc (length earlier)
length_shown frame cue earlier = at (takes_place cue (former_cue cue earlier))
  where
    at : (b : Bool) → suc (length (if b then hidden_in frame (kind_lane cue.kind) earlier else earlier)) ≡ suc (length earlier)
    at true = ap suc (length_hidden frame (kind_lane cue.kind) earlier)
    at false = refl

-- in file order
pub length_added : (frame : ℕ) (cue : Cue) (cues : List Cue) → length (reverse (with_shown frame cue (reverse cues))) ≡ suc (length cues)
length_added frame cue cues =
    length-reverse (with_shown frame cue (reverse cues)) ∙ length_shown frame cue (reverse cues) ∙ ap suc (length-reverse cues)

-- the cues so far, one more of which was read
pub read_more : (late : ℕ) (list : Listing) (cues : List Cue) (i : ℕ) (x : Cue) (earlier : List Cue) (frame : ℕ) → i < length cues → x ≡ get_or cues i x
    → AreFitted late list [] (take i cues) earlier → IsShow late list earlier x frame
    → AreFitted late list [] (take (i + 1) cues) (with_shown frame x earlier)
read_more late list cues i x earlier frame within is are shown =
    let more : take (i + 1) cues ≡ take i cues ++ x ∷ [] = take_more cues i x within ∙ ap (λ (y : Cue). take i cues ++ y ∷ []) (sym is) in
    subst (λ (l : List Cue). AreFitted late list [] l (with_shown frame x earlier)) (sym more) (fitted_more late list [] (take i cues) x earlier frame are shown)

-- the cue at hand is the first that can't be shown
pub lacks_here : (late : ℕ) (list : Listing) (cues : List Cue) (i : ℕ) (x : Cue) (earlier : List Cue) → cues ≡ list.cues → i < length cues → x ≡ get_or cues i x
    → length (take i cues) ≡ i → AreFitted late list [] (take i cues) earlier → HasNoShow late list earlier x → LacksShow late list (i + 1)
lacks_here late list cues i x earlier same within is count are none = record {
  before = take i cues;
  cue = x;
  after = drop (suc i) cues;
  split =
      let rest : drop i cues ≡ x ∷ drop (suc i) cues = drop-cons cues i x within ∙ ap (λ y. y ∷ drop (suc i) cues) (sym is) in
      sym same ∙ sym (take-append-drop i cues) ∙ rw rest refl;
  number_is = ap (λ (n : ℕ). n + 1) (sym count);
  fitted = earlier;
  are = are;
  none = none;
}
