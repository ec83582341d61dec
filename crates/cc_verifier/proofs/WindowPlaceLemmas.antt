-- What a window is to show, by the first of its cues whose HIDE is to come.
use Rattle.std.proofs.Common.{◌≡◌, ◌∙◌, ℕ, ◌+◌, ◌<◌, ◌≤◌, nat_le, Bool, true, false, List, [], ◌∷◌, length, find, ap, arith, refl, subst, sym, zero, suc, below_more}
use Rattle.std.specs.Prelude.{◌&&◌, None, Option, Some, IfSome, if◌then◌else◌, slice_get}
use Rattle.std.specs.List.{AllByRecursion}
use Rattle.std.proofs.lemmas.Option.{slice_get_past, slice_get_within}
use Rattle.std.specs.Option.{option_and_then}
use Rattle.cue_types.specs.Channels.{uses_window}
use Rattle.cue_lists.specs.AuthoredServiceGrid.{authored_windows, cue_window, is_before, shows_in}
use Rattle.cue_types.specs.declared.cue.Cue.{Cue}
use Rattle.dtvcc_windows.specs.Showing.{ShownWindow}
use Rattle.cc_verifier.specs.WindowPlaces.{HasPassed, IsOver, IsQuiet, IsToHide, StandsAtPlace, StandsUntil}
use Rattle.cc_verifier.specs.WindowTurns.{AreInTurn, IsLater}

-- the window of a cue that is shown by a frame
abbrev pub shown_by : ℕ → Option Cue → Option ShownWindow
shown_by frame None = None
shown_by frame (Some cue) = if nat_le cue.show frame then cue_window cue.kind cue.runs else None

-- the window of a cue, or what the later ones have
abbrev first_or : Bool → Cue → Option Cue → Option ShownWindow
first_or shown cue later = option_and_then (λ cue. cue_window cue.kind cue.runs) (if shown then Some cue else later)

-- a cue that is over isn't shown
over_hidden : (service id frame : ℕ) (cue : Cue) → IsOver service id frame cue → shows_in service id frame cue ≡ false
over_hidden service id frame cue over = by_test (uses_window service id cue.kind) refl
  where
    by_show : (b : Bool) → is_before frame cue.hide ≡ false → (b && is_before frame cue.hide) ≡ false
    by_show false is = refl
    by_show true is = is

    by_test : (b : Bool) → uses_window service id cue.kind ≡ b → (b && (nat_le cue.show frame && is_before frame cue.hide)) ≡ false
    by_test false is = refl
    by_test true is = by_show (nat_le cue.show frame) (over is)

-- nor is one whose SHOW is to come
to_come_hidden : (service id frame : ℕ) (cue : Cue) → (uses_window service id cue.kind ≡ true → frame < cue.show) → shows_in service id frame cue ≡ false
to_come_hidden service id frame cue later = by_test (uses_window service id cue.kind) refl
  where
    by_test : (b : Bool) → uses_window service id cue.kind ≡ b → (b && (nat_le cue.show frame && is_before frame cue.hide)) ≡ false
    by_test false is = refl
    by_test true is = let h : frame < cue.show = later is in let e : nat_le cue.show frame ≡ false = grind arith in ap (λ b. b && is_before frame cue.hide) e

-- the later cues aren't where the SHOW of this one is to come
none_later : (service id frame : ℕ) (cue : Cue) (later : List Cue) → AllByRecursion (IsLater service id cue) later → frame < cue.show
    → find (shows_in service id frame) later ≡ None
none_later service id frame cue [] are before = refl
none_later service id frame cue (other ∷ later) are before =
    let hidden = to_come_hidden service id frame other (λ has. let h : cue.show < other.show = are.0 has in omega arith) in
    ap (λ b. if b then Some other else find (shows_in service id frame) later) hidden ∙ none_later service id frame cue later are.1 before

-- the window is the window of the cue at which it stands, from its SHOW on
pub authored_at : (service id frame : ℕ) (cues : List Cue) (place : ℕ) → AreInTurn service id cues
    → ((k : ℕ) → k < place → IfSome (slice_get cues k) (IsOver service id frame)) → IfSome (slice_get cues place) (IsToHide service id frame)
    → authored_windows service cues frame id ≡ shown_by frame (slice_get cues place)
authored_at service id frame [] place turn over next = refl
authored_at service id frame (cue ∷ later) zero turn over next = by_show (nat_le cue.show frame) refl
  where
    by_show : (b : Bool) → nat_le cue.show frame ≡ b
        → first_or (uses_window service id cue.kind && (b && is_before frame cue.hide)) cue (find (shows_in service id frame) later)
        ≡ (if b then cue_window cue.kind cue.runs else None)
    by_show true is =
        ap (λ b. first_or (b && (true && is_before frame cue.hide)) cue (find (shows_in service id frame) later)) next.has
        ∙ ap (λ b. first_or b cue (find (shows_in service id frame) later)) next.before
    by_show false is =
        let before : frame < cue.show = grind arith in
        ap (λ b. first_or (b && false) cue (find (shows_in service id frame) later)) next.has
        ∙ ap (λ o. option_and_then (λ c. cue_window c.kind c.runs) o) (none_later service id frame cue later (turn.0 next.has) before)
authored_at service id frame (cue ∷ later) (suc place) turn over next =
    ap (λ b. first_or b cue (find (shows_in service id frame) later)) (over_hidden service id frame cue (over zero (omega arith)))
    ∙ authored_at service id frame later place turn.1 (λ k below. over (suc k) (omega arith)) next

-- a cue that is over stays so
over_later : (service id former frame : ℕ) (cue : Cue) → former ≤ frame → IsOver service id former cue → IsOver service id frame cue
over_later service id former frame cue le over has = by_hide cue.hide (over has)
  where
    by_hide : (hide : Option ℕ) → is_before former hide ≡ false → is_before frame hide ≡ false
    by_hide None is = is
    by_hide (Some hide) is = let h : hide ≤ former = grind arith in let k : hide ≤ frame = omega arith in grind arith

all_over_later : (service id former frame : ℕ) (cue : Option Cue) → former ≤ frame → IfSome cue (IsOver service id former) → IfSome cue (IsOver service id frame)
all_over_later service id former frame None le over = tt
all_over_later service id former frame (Some cue) le over = over_later service id former frame cue le over

pub passed_later : (service id : ℕ) (cues : List Cue) (former frame place : ℕ) → former ≤ frame → HasPassed service id cues former place
    → HasPassed service id cues frame place
passed_later service id cues former frame place le passed = record {
  within = passed.within;
  over = λ k below. all_over_later service id former frame (slice_get cues k) le (passed.over k below);
}

-- both tests hold
both_true : (a b : Bool) → (a && b) ≡ true → (a ≡ true) × (b ≡ true)
both_true true b is = (refl, is)
both_true false b is = cc

-- one more cue that is over
this_over : (service id frame : ℕ) (cue : Cue) → (uses_window service id cue.kind && is_before frame cue.hide) ≡ false → IsOver service id frame cue
this_over service id frame cue none has = ap (λ b. b && is_before frame cue.hide) (sym has) ∙ none

pub passed_more : (service id : ℕ) (cues : List Cue) (frame place : ℕ) (cue : Cue) → HasPassed service id cues frame place
    → slice_get cues place ≡ Some cue → (uses_window service id cue.kind && is_before frame cue.hide) ≡ false → HasPassed service id cues frame (place + 1)
passed_more service id cues frame place cue passed is none = record {
  within = let h = slice_get_within cues place cue is in omega arith;
  over = below_more (λ k. IfSome (slice_get cues k) (IsOver service id frame)) place passed.over
      (subst (λ o. IfSome o (IsOver service id frame)) (sym is) (this_over service id frame cue none));
}

-- and one that is to be hidden
pub stands_there : (service id : ℕ) (cues : List Cue) (frame place : ℕ) (cue : Cue) → HasPassed service id cues frame place
    → slice_get cues place ≡ Some cue → (uses_window service id cue.kind && is_before frame cue.hide) ≡ true → StandsAtPlace service id cues frame place
stands_there service id cues frame place cue passed is both =
    let two = both_true (uses_window service id cue.kind) (is_before frame cue.hide) both in
    record {
      passed = passed;
      next = subst (λ o. IfSome o (IsToHide service id frame)) (sym is) (record { has = two.0; before = two.1 });
    }

-- or none is left
pub stands_behind : (service id : ℕ) (cues : List Cue) (frame place : ℕ) → HasPassed service id cues frame place → length cues ≤ place
    → StandsAtPlace service id cues frame place
stands_behind service id cues frame place passed past = record {
  passed = passed;
  next = subst (λ o. IfSome o (IsToHide service id frame)) (sym (slice_get_past cues place past)) tt;
}

-- nothing happens before a sooner frame either
less_quiet : (frame until sooner : ℕ) (cue : Cue) → sooner ≤ until → IsQuiet frame until cue → IsQuiet frame sooner cue
less_quiet frame until sooner cue le quiet = record {
  show = λ before. let h = quiet.show before in omega arith;
  hide = by_hide cue.hide quiet.hide;
}
  where
    by_hide : (hide : Option ℕ) → IfSome hide (λ h. until ≤ h) → IfSome hide (λ h. sooner ≤ h)
    by_hide None is = tt
    by_hide (Some hide) is = omega arith

pub none_quiet : (frame until sooner : ℕ) (cue : Option Cue) → sooner ≤ until → IfSome cue (IsQuiet frame until) → IfSome cue (IsQuiet frame sooner)
none_quiet frame until sooner None le quiet = tt
none_quiet frame until sooner (Some cue) le quiet = less_quiet frame until sooner cue le quiet

-- a window stays at its place up to the next change
still_to_hide : (service id former frame until : ℕ) (cue : Cue) → frame < until → IsQuiet former until cue → IsToHide service id former cue
    → IsToHide service id frame cue
still_to_hide service id former frame until cue before quiet next = record { has = next.has; before = by_hide cue.hide quiet.hide }
  where
    by_hide : (hide : Option ℕ) → IfSome hide (λ h. until ≤ h) → is_before frame hide ≡ true
    by_hide None is = refl
    by_hide (Some hide) is = let h : frame < hide = omega arith in grind arith

next_still : (service id former frame until : ℕ) (cue : Option Cue) → frame < until → IfSome cue (IsQuiet former until)
    → IfSome cue (IsToHide service id former) → IfSome cue (IsToHide service id frame)
next_still service id former frame until None before quiet next = tt
next_still service id former frame until (Some cue) before quiet next = still_to_hide service id former frame until cue before quiet next

quiet_still : (former frame until : ℕ) (cue : Option Cue) → former ≤ frame → IfSome cue (IsQuiet former until) → IfSome cue (IsQuiet frame until)
quiet_still former frame until None le quiet = tt
quiet_still former frame until (Some cue) le quiet = record {
  show = λ before. quiet.show (omega arith);
  hide = quiet.hide;
}

pub placed_still : (service id : ℕ) (cues : List Cue) (former frame until place : ℕ) → former ≤ frame → frame < until
    → StandsUntil service id cues former until place → StandsUntil service id cues frame until place
placed_still service id cues former frame until place le before placed = record {
  stands = record {
    passed = passed_later service id cues former frame place le placed.stands.passed;
    next = next_still service id former frame until (slice_get cues place) before placed.quiet placed.stands.next;
  };
  quiet = quiet_still former frame until (slice_get cues place) le placed.quiet;
}

-- and shows the same
same_shown : (former frame until : ℕ) (cue : Option Cue) → former ≤ frame → frame < until → IfSome cue (IsQuiet former until)
    → shown_by frame cue ≡ shown_by former cue
same_shown former frame until None le before quiet = refl
same_shown former frame until (Some cue) le before quiet = ap (λ b. if b then cue_window cue.kind cue.runs else None) same
  where
    by_show : (b : Bool) → nat_le cue.show former ≡ b → nat_le cue.show frame ≡ b
    by_show true is = let h : cue.show ≤ former = grind arith in let k : cue.show ≤ frame = omega arith in grind arith
    by_show false is =
        let h : former < cue.show = grind arith in
        let k = quiet.show h in
        let l : frame < cue.show = omega arith in grind arith

    same : nat_le cue.show frame ≡ nat_le cue.show former
    same = by_show (nat_le cue.show former) refl

pub stays_same : (service id : ℕ) (cues : List Cue) (former frame until place : ℕ) → AreInTurn service id cues → former ≤ frame → frame < until
    → StandsUntil service id cues former until place → authored_windows service cues frame id ≡ authored_windows service cues former id
stays_same service id cues former frame until place turn le before placed =
    let still = placed_still service id cues former frame until place le before placed in
    authored_at service id frame cues place turn still.stands.passed.over still.stands.next
    ∙ same_shown former frame until (slice_get cues place) le before placed.quiet
    ∙ sym (authored_at service id former cues place turn placed.stands.passed.over placed.stands.next)

-- what the cue of a place shows: its window from its SHOW on
pub shown_there : (service id frame : ℕ) (cues : List Cue) (place : ℕ) (cue : Cue) → AreInTurn service id cues → StandsAtPlace service id cues frame place
    → slice_get cues place ≡ Some cue → cue.show ≤ frame → authored_windows service cues frame id ≡ cue_window cue.kind cue.runs
shown_there service id frame cues place cue turn stands is come =
    let e : nat_le cue.show frame ≡ true = grind arith in
    authored_at service id frame cues place turn stands.passed.over stands.next ∙ ap (shown_by frame) is
    ∙ ap (λ b. if b then cue_window cue.kind cue.runs else None) e

pub hidden_there : (service id frame : ℕ) (cues : List Cue) (place : ℕ) (cue : Cue) → AreInTurn service id cues → StandsAtPlace service id cues frame place
    → slice_get cues place ≡ Some cue → frame < cue.show → authored_windows service cues frame id ≡ None
hidden_there service id frame cues place cue turn stands is before =
    let e : nat_le cue.show frame ≡ false = grind arith in
    authored_at service id frame cues place turn stands.passed.over stands.next ∙ ap (shown_by frame) is
    ∙ ap (λ b. if b then cue_window cue.kind cue.runs else None) e

pub none_there : (service id frame : ℕ) (cues : List Cue) (place : ℕ) → AreInTurn service id cues → StandsAtPlace service id cues frame place
    → slice_get cues place ≡ None → authored_windows service cues frame id ≡ None
none_there service id frame cues place turn stands is =
    authored_at service id frame cues place turn stands.passed.over stands.next ∙ ap (shown_by frame) is
