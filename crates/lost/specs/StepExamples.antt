-- Between crates: the program's answer stands on none of these definitions.
-- Worked examples: lists of which one frame is lost, and at which of the frames that come a channel and a service are in step.
use Rattle.std.specs.Prelude.{ℕ, suc, ◌-◌, List, [], ◌∷◌, ◌++◌}
use Rattle.std.specs.List.{range_with_len}
use Rattle.cc_base.specs.declared.rate.Rate.TheVariants as rate
use Rattle.cue_types.specs.Listing.{Listing}
use Rattle.cue_types.specs.declared.cue.Cue.{Cue}
use Rattle.line21_codes.specs.declared.channels.Chan.TheVariants.{Cc1}
use Rattle.cue_lists.specs.Rules.Examples.{pop, window, window_list}

-- the frames up to one, but for one that is lost
abbrev pub all_but : ℕ → ℕ → List ℕ
all_but lost frame = range_with_len 0 lost ++ range_with_len (suc lost) (frame - lost)

-- at 29.97 two captions of CC1, seen from frame 8 up to 12 and, loaded from 10 on, from 18 up to 20; and two in a window of service 1, seen
-- from 12 up to 16 and, loaded from 20 on, from 25 up to 30
abbrev pub slow_cut : Cue
slow_cut = pop Cc1 0 8 12

abbrev pub slow_whole : Cue
slow_whole = pop Cc1 10 18 20

abbrev pub slow_list : Listing
slow_list = window_list (slow_cut ∷ slow_whole ∷ window 0 1 12 16 0 ∷ window 0 20 25 30 0 ∷ [])

-- at 59.94, where field 1 has a slot in every other frame, the same at twice the frames
abbrev pub fast_cut : Cue
fast_cut = pop Cc1 0 16 24

abbrev pub fast_whole : Cue
fast_whole = pop Cc1 20 36 40

abbrev pub fast_list : Listing
fast_list = record {
  rate = rate.F5994;
  frames = 300;
  shares = record { service = 1; bytes = 15 } ∷ [];
  cues = fast_cut ∷ fast_whole ∷ window 0 1 24 32 0 ∷ window 0 40 50 60 0 ∷ [];
}
