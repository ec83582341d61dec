-- Between crates: the program's answer stands on none of these definitions.
-- Rule PastEnd: a cue has ended before the last frame has, its last event with the repeat counted.
use Rattle.std.specs.Prelude.{ℕ, ◌+◌, ◌&&◌, nat_lt, nat_le, is_none, Bool, List, [], ◌∷◌}
use Rattle.cue_types.specs.declared.cue.Cue.{Cue}
use Rattle.cue_types.specs.Hide.{hide_is}
use Rattle.cue_lists.specs.Rules.Alternatives.{Alternative, alone}
use Rattle.cue_types.specs.Lane.{is_line21, is_win}

-- on a channel, HIDE, a step from slot to slot and 1 together are above FRAMES
abbrev pub hides_past_end : ℕ → ℕ → Cue → Bool
hides_past_end step frames cue = is_line21 cue.kind && hide_is cue.hide (λ hide. nat_lt frames (hide + step + 1))

-- on a channel, HIDE is empty, and SHOW isn't below FRAMES
abbrev pub shows_past_end : ℕ → Cue → Bool
shows_past_end frames cue = is_line21 cue.kind && is_none cue.hide && nat_le frames cue.show

-- on a service, HIDE isn't below FRAMES
abbrev pub window_past_end : ℕ → Cue → Bool
window_past_end frames cue = is_win cue.kind && hide_is cue.hide (λ hide. nat_le frames hide)

-- the ways to break the rule
abbrev pub past_end : ℕ → ℕ → Cue → List Alternative
past_end step frames cue =
    alone (hides_past_end step frames cue)
    ∷ alone (shows_past_end frames cue)
    ∷ alone (window_past_end frames cue)
    ∷ []
