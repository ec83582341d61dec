-- The tests of rule DelayCovers and WindowBusy, and the sentences that say the same.
use Rattle.std.proofs.Common.{◌≡◌, ◌≢◌, ℕ, ◌<◌, ◌≤◌, ◌&&◌, ◌||◌, Bool, true, false, List, [], ◌∷◌, Option, Some, None, suc, refl, arith, inl, inr}
use Rattle.std.specs.Prelude.{nat_lt, IfSome}
use Rattle.std.specs.List.{AllByRecursion, list_any}
use Rattle.std.proofs.lemmas.Bool.Decides.{leb_tells, eqb_tells}
use Rattle.cc_base.specs.declared.rate.Rate.{Rate}
use Rattle.cue_types.specs.Hide.{hide_is}
use Rattle.cue_lists.specs.Rules.Delay.{delay_start, event_frames}
use Rattle.cue_lists.specs.Rules.DelayCovers.{delay_has, delays_cross, same_service, same_start}
use Rattle.cue_lists.specs.Rules.Sentences.{IsUndisturbed, KeepsClear}
use Rattle.cue_lists.specs.Rules.WindowBusy.{keeps_window, same_window}
use Rattle.cue_types.specs.declared.cue.Cue.{Cue}
use Rattle.cue_lists.proofs.RuleKept.{not_lt, second_fails}
use Rattle.cue_lists.proofs.RuleTests.{eq_fails, guarded, hide_test_fails, lt_fails}

-- numbers by a test that is passed, and a test by its numbers
pub lt_holds : (a b : ℕ) → nat_lt a b ≡ true → a < b
lt_holds a b passes = elim (leb_tells (suc a) b) [ inl t ↦ omega (arith, t.1) | inr t ↦ cc ]

pub lt_passes : (a b : ℕ) → a < b → nat_lt a b ≡ true
lt_passes a b below = elim (leb_tells (suc a) b) [ inl t ↦ t.0 | inr t ↦ absurd (let above : b < suc a = t.1 in omega arith) ]

-- two tests of which neither is passed
neither : (a b : Bool) → (a || b) ≡ false → (a ≡ false) × (b ≡ false)
neither true b fails = cc
neither false b fails = (refl, fails)

neither_of : (a b : Bool) → a ≡ false → b ≡ false → (a || b) ≡ false
neither_of a b first second = rw first second

-- no frame lies between the start and the show
none_between : (start show : ℕ) (frames : List ℕ) → AllByRecursion (λ (frame : ℕ). start < frame → show ≤ frame) frames
    → list_any (λ frame. nat_lt start frame && nat_lt frame show) frames ≡ false
none_between start show [] all = refl
none_between start show (frame ∷ frames) all =
    neither_of (nat_lt start frame && nat_lt frame show) (list_any (λ f. nat_lt start f && nat_lt f show) frames)
    (guarded (nat_lt start frame) (nat_lt frame show) (λ after. lt_fails frame show (all.0 (lt_holds start frame after))))
    (none_between start show frames all.1)

all_outside : (start show : ℕ) (frames : List ℕ)
    → list_any (λ frame. nat_lt start frame && nat_lt frame show) frames ≡ false
    → AllByRecursion (λ (frame : ℕ). start < frame → show ≤ frame) frames
all_outside start show [] none = tt
all_outside start show (frame ∷ frames) none =
    let both = neither (nat_lt start frame && nat_lt frame show) (list_any (λ f. nat_lt start f && nat_lt f show) frames) none in (
      λ after. not_lt frame show (second_fails (nat_lt start frame) (nat_lt frame show) both.0 (lt_passes start frame after)),
      all_outside start show frames both.1,
    )

-- a delay that has none of the frames
spared : (delay : Option ℕ) (show : ℕ) (frames : List ℕ)
    → IfSome delay (λ start. AllByRecursion (λ (frame : ℕ). start < frame → show ≤ frame) frames)
    → delay_has delay show frames ≡ false
spared None show frames all = refl
spared (Some start) show frames all = none_between start show frames all

pub undisturbed_by : (delay : Option ℕ) (show : ℕ) (frames : List ℕ) → delay_has delay show frames ≡ false
    → IfSome delay (λ start. AllByRecursion (λ (frame : ℕ). start < frame → show ≤ frame) frames)
undisturbed_by None show frames none = tt
undisturbed_by (Some start) show frames none = all_outside start show frames none

-- delays that don't start in one frame
starts_fail : (a b : Option ℕ) → IfSome a (λ start. IfSome b (λ other. start ≢ other)) → same_start a b ≡ false
starts_fail None b differ = refl
starts_fail (Some a) None differ = refl
starts_fail (Some a) (Some b) differ = eq_fails a b differ

starts_differ : (a b : Option ℕ) → same_start a b ≡ false → IfSome a (λ start. IfSome b (λ other. start ≢ other))
starts_differ None b fails = tt
starts_differ (Some a) None fails = tt
starts_differ (Some a) (Some b) fails = elim (eqb_tells a b) [ inl t ↦ cc | inr t ↦ t.1 ]

-- a cue that keeps clear of another doesn't use its window
pub window_vacated : (rate : Rate) (earlier cue : Cue) → KeepsClear rate earlier cue → keeps_window cue earlier ≡ false
window_vacated rate earlier cue clear =
    guarded (same_window cue.kind earlier.kind) (hide_is earlier.hide (λ hide. nat_lt cue.load hide))
    (λ same. hide_test_fails earlier.hide (λ hide. nat_lt cue.load hide) (λ hide. hide ≤ cue.load)
    (λ hide at. lt_fails cue.load hide at) (clear.vacated same))

pub vacates : (earlier cue : Cue) → keeps_window cue earlier ≡ false → same_window cue.kind earlier.kind ≡ true
    → IfSome earlier.hide (λ hide. hide ≤ cue.load)
vacates earlier cue fails same =
    at_hide earlier.hide (second_fails (same_window cue.kind earlier.kind) (hide_is earlier.hide (λ hide. nat_lt cue.load hide)) fails same)
  where
    at_hide : (o : Option ℕ) → hide_is o (λ hide. nat_lt cue.load hide) ≡ false → IfSome o (λ hide. hide ≤ cue.load)
    at_hide None none = tt
    at_hide (Some hide) none = not_lt cue.load hide none

-- nor do their delays cross
pub delays_apart : (rate : Rate) (earlier cue : Cue) → KeepsClear rate earlier cue → delays_cross rate cue earlier ≡ false
delays_apart rate earlier cue clear =
    guarded (same_service cue.kind earlier.kind) _
    (λ same. neither_of _ _
    (neither_of _ _ (starts_fail (delay_start rate cue) (delay_start rate earlier) clear.starts)
    (spared (delay_start rate cue) cue.show (event_frames rate earlier) clear.undisturbed))
    (spared (delay_start rate earlier) earlier.show (event_frames rate cue) clear.undisturbing))

-- what holds of two cues of one service whose delays don't cross
pub crossing_none : (rate : Rate) (earlier cue : Cue) → delays_cross rate cue earlier ≡ false
    → same_service cue.kind earlier.kind ≡ true
    → IfSome (delay_start rate cue) (λ start. IfSome (delay_start rate earlier) (λ other. start ≢ other))
    × IsUndisturbed rate cue earlier × IsUndisturbed rate earlier cue
crossing_none rate earlier cue fails same =
    let three = neither _ _ (second_fails (same_service cue.kind earlier.kind) _ fails same) in
    let two = neither _ _ three.0 in (
      starts_differ (delay_start rate cue) (delay_start rate earlier) two.0,
      undisturbed_by (delay_start rate cue) cue.show (event_frames rate earlier) two.1,
      undisturbed_by (delay_start rate earlier) earlier.show (event_frames rate cue) three.1,
    )
