-- Between crates: the program's answer stands on none of these definitions.
-- Rule Clash: no two events of a channel need one slot. Each event is sent twice, in its frame and in the frame of its
-- field's next slot, which is `step` frames on: one, and two at 59.94 and 60 frames a second.
use Rattle.std.specs.Prelude.{ℕ, ◌+◌, ◌*◌, ◌&&◌, nat_lt, Bool, List, [], ◌∷◌, Option}
use Rattle.cue_types.specs.declared.cue.Cue.{Cue}
use Rattle.cue_types.specs.Hide.{hide_is}
use Rattle.cue_lists.specs.Rules.Alternatives.{Alternative, alone, with_former}
use Rattle.cue_types.specs.Lane.{is_pop}

-- a pop-on cue's HIDE is below SHOW and two steps
abbrev pub hides_at_once : ℕ → Cue → Bool
hides_at_once step cue = is_pop cue.kind && hide_is cue.hide (λ hide. nat_lt hide (cue.show + 2 * step))

-- a pop-on cue's SHOW is above the former cue's HIDE, and below that and two steps
abbrev pub shows_as_it_hides : ℕ → Cue → Cue → Bool
shows_as_it_hides step cue former =
    is_pop cue.kind && hide_is former.hide (λ hide. nat_lt hide cue.show && nat_lt cue.show (hide + 2 * step))

-- the ways to break the rule
abbrev pub clash : ℕ → Cue → Option Cue → List Alternative
clash step cue former =
    alone (hides_at_once step cue)
    ∷ with_former former (shows_as_it_hides step cue)
    ∷ []
