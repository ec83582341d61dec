-- The nearest cue before that passes a test, as cues pass by.
use Rattle.std.proofs.Common.{◌≡◌, ℕ, ◌+◌, ◌<◌, ◌≤◌, ◌&&◌, ◌||◌, Bool, false, List, [], ◌∷◌, length, take, reverse, get_or, None, refl, arith}
use Rattle.std.proofs.lemmas.List.{take_more, reverse-append, length-reverse, length-take}
use Rattle.std.specs.Prelude.{nat_lt}
use Rattle.cc_base.specs.declared.rate.Rate.{Rate}
use Rattle.cue_types.specs.declared.cue.Cue.{Cue}
use Rattle.cue_types.specs.declared.cue.Kind.{Kind}
use Rattle.cue_types.specs.declared.cue.Kind.TheVariants as kind
use Rattle.cue_types.specs.Hide.{hide_is}
use Rattle.cue_lists.specs.Rules.Delay.{delay_start, event_frames}
use Rattle.cue_lists.specs.Rules.DelayCovers.{delays_cross, delay_has, same_service, same_start}
use Rattle.cue_types.specs.Lane.{is_win}
use Rattle.cue_lists.specs.Rules.WindowBusy.{keeps_window, same_window}
use Rattle.cue_lists.specs.Rules.Former.{nearest_number}

-- the first i elements, newest first, are i
pub length_before : (cues : List Cue) (i : ℕ) → i ≤ length cues → length (reverse (take i cues)) ≡ i
length_before cues i within = simp (length-reverse, length-take) (omega arith)

-- one more cue has passed
pub before_more : (cues : List Cue) (i : ℕ) (d : Cue) → i < length cues
    → reverse (take (i + 1) cues) ≡ get_or cues i d ∷ reverse (take i cues)
before_more cues i d within = rw (take_more cues i d within, reverse-append) refl

-- a test that no cue passes finds none
pub nearest_none : (test : Cue → Bool) (cues : List Cue) → ((cue : Cue) → test cue ≡ false)
    → nearest_number test cues ≡ None
nearest_none test [] fails = refl
nearest_none test (cue ∷ cues) fails = rw fails (nearest_none test cues fails)

-- only a window cue keeps a window
pub keeps_window_of_line21 : (cue other : Cue) → is_win cue.kind ≡ false → keeps_window cue other ≡ false
keeps_window_of_line21 cue other line21 = other_window cue.kind line21
  where
    other_window : (k : Kind) → is_win k ≡ false
        → (same_window k other.kind && hide_is other.hide (λ hide. nat_lt cue.load hide)) ≡ false
    other_window (kind.Pop c) e = refl
    other_window (kind.Paint c) e = refl
    other_window (kind.Roll c n) e = refl
    other_window (kind.Win w) e = cc

-- only delays of window cues cross
pub delays_cross_of_line21 : (rate : Rate) (cue other : Cue) → is_win cue.kind ≡ false
    → delays_cross rate cue other ≡ false
delays_cross_of_line21 rate cue other line21 = other_service cue.kind line21
  where
    other_service : (k : Kind) → is_win k ≡ false
        → (same_service k other.kind
        && (same_start (delay_start rate cue) (delay_start rate other)
        || delay_has (delay_start rate cue) cue.show (event_frames rate other)
        || delay_has (delay_start rate other) other.show (event_frames rate cue))) ≡ false
    other_service (kind.Pop c) e = refl
    other_service (kind.Paint c) e = refl
    other_service (kind.Roll c n) e = refl
    other_service (kind.Win w) e = cc
