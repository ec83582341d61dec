-- The window that is found for an id is the window of each cue that is shown in it.
use Rattle.std.proofs.Common.{◌≡◌, ℕ, Bool, true, false, if◌then◌else◌, List, [], ◌∷◌, find, Option, Some, None, refl}
use Rattle.std.specs.List.{AllByRecursion}
use Rattle.std.specs.Option.{option_and_then}
use Rattle.cue_lists.specs.AuthoredServiceGrid.{AreOneAtATime, ShowsEachCue, cue_window, shows_in}
use Rattle.cue_types.specs.declared.cue.Cue.{Cue}
use Rattle.dtvcc_windows.specs.Showing.{ShownWindow}

-- the window of the first cue that is shown
abbrev found : (service id frame : ℕ) → List Cue → Option ShownWindow
found service id frame cues = option_and_then (λ cue. cue_window cue.kind cue.runs) (find (shows_in service id frame) cues)

-- the first of the cues, by whether it is shown
abbrev first_or : Bool → Cue → Option Cue → Option ShownWindow
first_or shown cue later = option_and_then (λ cue. cue_window cue.kind cue.runs) (if shown then Some cue else later)

-- none of the later cues is shown where the first one is
others : (service id frame : ℕ) (cue : Cue) (later : List Cue) (window : Option ShownWindow)
    → AllByRecursion (λ (other : Cue). shows_in service id frame other ≡ false) later
    → AllByRecursion (λ (other : Cue). shows_in service id frame other ≡ true → window ≡ cue_window other.kind other.runs) later
others service id frame cue [] window none = tt
others service id frame cue (other ∷ later) window none = (λ shown. let no = none.0 in cc, others service id frame cue later window none.1)

each_found : (service id frame : ℕ) (cues : List Cue) → AreOneAtATime service id frame cues
    → AllByRecursion (λ (cue : Cue). shows_in service id frame cue ≡ true → found service id frame cues ≡ cue_window cue.kind cue.runs) cues
each_found service id frame [] one = tt
each_found service id frame (cue ∷ later) one = by_test (shows_in service id frame cue) (each_found service id frame later one.1) refl
  where
    by_test : (b : Bool) → AllByRecursion (λ (other : Cue). shows_in service id frame other ≡ true → found service id frame later ≡ cue_window other.kind other.runs) later
        → shows_in service id frame cue ≡ b
        → (b ≡ true → first_or b cue (find (shows_in service id frame) later) ≡ cue_window cue.kind cue.runs)
        × AllByRecursion (λ (other : Cue). shows_in service id frame other ≡ true → first_or b cue (find (shows_in service id frame) later) ≡ cue_window other.kind other.runs) later
    by_test true rest is = (λ shown. refl, others service id frame cue later _ (one.0 is))
    by_test false rest is = (λ shown. cc, rest)

none_found : (service id frame : ℕ) (cues : List Cue) → AllByRecursion (λ (cue : Cue). shows_in service id frame cue ≡ false) cues
    → found service id frame cues ≡ None
none_found service id frame [] none = refl
none_found service id frame (cue ∷ later) none = rw (none.0) (none_found service id frame later none.1)

pub each_cue_shown : ShowsEachCue
each_cue_shown service id frame cues one = record {
  has = each_found service id frame cues one;
  none = none_found service id frame cues;
}
