-- Between crates: the program's answer stands on none of these definitions.
-- Rule Order: the frames of a cue stand in order, and so do neighbouring cues of a lane.
use Rattle.std.specs.Prelude.{◌+◌, ◌&&◌, nat_lt, nat_le, Bool, List, [], ◌∷◌, Option}
use Rattle.cc_base.specs.declared.rate.Rate.{Rate}
use Rattle.cc_base.specs.Rate.{delay_frames_of}
use Rattle.cue_types.specs.declared.cue.Cue.{Cue}
use Rattle.cue_types.specs.Hide.{hide_is}
use Rattle.cue_lists.specs.Rules.Alternatives.{Alternative, alone, with_former}
use Rattle.cue_lists.specs.Rules.Delay.{delay_of}
use Rattle.cue_types.specs.Lane.{is_line21, is_win}

-- LOAD isn't below SHOW
abbrev pub loads_late : Cue → Bool
loads_late cue = nat_le cue.show cue.load

-- SHOW isn't below HIDE
abbrev pub hides_early : Cue → Bool
hides_early cue = hide_is cue.hide (λ hide. nat_le hide cue.show)

-- DELAY is above 0, and LOAD and the frames of DELAY together aren't below SHOW
abbrev pub delay_starts_early : Rate → Cue → Bool
delay_starts_early rate cue =
    nat_lt 0 (delay_of cue.kind) && nat_le cue.show (cue.load + delay_frames_of rate (delay_of cue.kind))

-- on a channel, LOAD is below the former cue's SHOW
abbrev pub loads_before_it_shows : Cue → Cue → Bool
loads_before_it_shows cue former = is_line21 cue.kind && nat_lt cue.load former.show

-- on a service, LOAD is below the former cue's LOAD
abbrev pub loads_before_it_loads : Cue → Cue → Bool
loads_before_it_loads cue former = is_win cue.kind && nat_lt cue.load former.load

-- the ways to break the rule
abbrev pub order : Rate → Cue → Option Cue → List Alternative
order rate cue former =
    alone (loads_late cue)
    ∷ alone (hides_early cue)
    ∷ alone (delay_starts_early rate cue)
    ∷ with_former former (loads_before_it_shows cue)
    ∷ with_former former (loads_before_it_loads cue)
    ∷ []
