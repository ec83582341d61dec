-- Between crates: the program's answer stands on none of these definitions.
-- Rule Unhidden: a cue that writes into the displayed memory loads when nothing of the former cue is left there, unless
-- it continues it; and a cue without a HIDE is only ever continued.
use Rattle.std.specs.Prelude.{◌&&◌, ◌||◌, not, nat_lt, is_none, Bool, List, [], ◌∷◌, Option}
use Rattle.cue_types.specs.declared.cue.Cue.{Cue}
use Rattle.cue_types.specs.Hide.{hide_is}
use Rattle.cue_lists.specs.Rules.Alternatives.{Alternative, with_former}
use Rattle.cue_types.specs.Line21Cues.{continues}
use Rattle.cue_types.specs.Lane.{is_paint, is_roll}

-- the cue is paint-on, or roll-up without continuing, and its LOAD is below the former cue's HIDE
abbrev pub loads_before_it_hides : Cue → Cue → Bool
loads_before_it_hides cue former =
    (is_paint cue.kind || (is_roll cue.kind && not (continues cue former)))
    && hide_is former.hide (λ hide. nat_lt cue.load hide)

-- the former cue's HIDE is empty, and the cue doesn't continue it
abbrev pub leaves_unhidden : Cue → Cue → Bool
leaves_unhidden cue former = is_none former.hide && not (continues cue former)

-- the ways to break the rule
abbrev pub unhidden : Cue → Option Cue → List Alternative
unhidden cue former =
    with_former former (loads_before_it_hides cue)
    ∷ with_former former (leaves_unhidden cue)
    ∷ []
