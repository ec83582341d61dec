-- The former cue among cues in file order, by its index.
use Rattle.std.proofs.Common.{◌≡◌, ◌∙◌, ℕ, suc, ◌+◌, true, false, List, [], ◌∷◌, ◌++◌, take, drop, get_or, set, reverse, Some, None, refl, sym, ap, add-one}
use Rattle.std.specs.Prelude.{find}
use Rattle.std.proofs.lemmas.List.{reverse-append, reverse-reverse, set_split, take-append-drop}
use Rattle.std.proofs.lemmas.List.Elements.{All-from_recursion, recursion_from_All}
use Rattle.cue_lists.proofs.ChannelCues.{All-reverse}
use Rattle.cue_lists.proofs.RuleLists.{newest_first}
use Rattle.cue_lists.proofs.RuleNearest.{before_more}
use Rattle.cue_lists.specs.Lane.{on_lane}
use Rattle.cue_lists.specs.declared.cue.Cue.{Cue}
use Rattle.cue_lists.specs.declared.lane.Lane.{Lane}
use Rattle.cue_fit.specs.Shown.{hidden_in}
use Rattle.cue_fit.specs.Tries.{AreOff, IsLastOn}

-- after cues off the lane
find_after : (on : Lane) (xs ys : List Cue) → AreOff on xs → find (on_lane on) (xs ++ ys) ≡ find (on_lane on) ys
find_after on [] ys off = refl
find_after on (x ∷ xs) ys off = let no : on_lane on x ≡ false = off.0 in rw no (find_after on xs ys off.1)

pub hidden_after : (frame : ℕ) (on : Lane) (xs ys : List Cue) → AreOff on xs → hidden_in frame on (xs ++ ys) ≡ xs ++ hidden_in frame on ys
hidden_after frame on [] ys off = refl
hidden_after frame on (x ∷ xs) ys off =
    let no : on_lane on x ≡ false = off.0 in rw no (ap (λ (l : List Cue). x ∷ l) (hidden_after frame on xs ys off.1))

pub off_back : (on : Lane) (xs : List Cue) → AreOff on xs → AreOff on (reverse xs)
off_back on xs off =
    recursion_from_All (λ (cue : Cue). on_lane on cue ≡ false) (reverse xs)
    (All-reverse (λ (cue : Cue). on_lane on cue ≡ false) xs (All-from_recursion (λ (cue : Cue). on_lane on cue ≡ false) xs off))

-- where no cue is on the lane, there is none to be found
pub none_found : (on : Lane) (cues : List Cue) → AreOff on cues → find (on_lane on) (reverse cues) ≡ None
none_found on cues off = at (reverse cues) (off_back on cues off)
  where
    at : (xs : List Cue) → AreOff on xs → find (on_lane on) xs ≡ None
    at [] none = refl
    at (x ∷ xs) none = let no : on_lane on x ≡ false = none.0 in rw no (at xs none.1)

module _ (on : Lane) (cues : List Cue) (index : ℕ) (last : IsLastOn on cues index) (d : Cue) where
  -- the cues with the newest first: those after it, it, those before it
  back : reverse cues ≡ reverse (drop (index + 1) cues) ++ get_or cues index d ∷ reverse (take index cues)
  back =
      ap reverse (sym (take-append-drop (index + 1) cues))
      ∙ reverse-append (take (index + 1) cues) (drop (index + 1) cues)
      ∙ ap (λ (l : List Cue). reverse (drop (index + 1) cues) ++ l) (before_more cues index d last.within)

  here : on_lane on (get_or cues index d) ≡ true
  here = last.here d

  -- it is the one that is found
  pub last_found : find (on_lane on) (reverse cues) ≡ Some (get_or cues index d)
  last_found =
      ap (λ (l : List Cue). find (on_lane on) l) back
      ∙ find_after on (reverse (drop (index + 1) cues)) (get_or cues index d ∷ reverse (take index cues)) (off_back on (drop (index + 1) cues) last.after)
      ∙ rw here refl

  -- and the one that is hidden in another frame
  module _ (frame : ℕ) where
    first_hidden : hidden_in frame on (get_or cues index d ∷ reverse (take index cues))
        ≡ record (get_or cues index d) { hide = Some frame } ∷ reverse (take index cues)
    first_hidden = rw here refl

    hidden_back : hidden_in frame on (reverse cues)
        ≡ reverse (drop (index + 1) cues) ++ record (get_or cues index d) { hide = Some frame } ∷ reverse (take index cues)
    hidden_back =
        ap (λ (l : List Cue). hidden_in frame on l) back
        ∙ hidden_after frame on (reverse (drop (index + 1) cues)) (get_or cues index d ∷ reverse (take index cues)) (off_back on (drop (index + 1) cues) last.after)
        ∙ ap (λ (l : List Cue). reverse (drop (index + 1) cues) ++ l) first_hidden

    turned : reverse (reverse (drop (index + 1) cues) ++ record (get_or cues index d) { hide = Some frame } ∷ reverse (take index cues))
        ≡ take index cues ++ record (get_or cues index d) { hide = Some frame } ∷ drop (suc index) cues
    turned =
        newest_first (drop (index + 1) cues) (record (get_or cues index d) { hide = Some frame }) (reverse (take index cues))
        ∙ rw (reverse-reverse, add-one) refl

    pub last_hidden : reverse (hidden_in frame on (reverse cues)) ≡ set cues index (record (get_or cues index d) { hide = Some frame })
    last_hidden =
        ap (λ (l : List Cue). reverse l) hidden_back ∙ turned
        ∙ sym (set_split cues index (record (get_or cues index d) { hide = Some frame }) last.within)
