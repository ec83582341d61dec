-- Believed: the program's answer stands on these definitions.
-- A cue at other times than it asks, after the cues so far, which are a list with the newest first.
use Rattle.std.specs.Prelude.{ℕ, Bool, if◌then◌else◌, List, ◌∷◌}
use Rattle.cue_lists.specs.Lane.{kind_lane}
use Rattle.cue_lists.specs.Rules.Former.{former_cue}
use Rattle.cue_lists.specs.declared.cue.Cue.{Cue}
use Rattle.cue_fit.specs.Shown.{hidden_in, load_after}
use Rattle.dual_fit.specs.declared.times.Times.{Times}

-- the cue at these times; on a channel it isn't loaded before the former one is shown
abbrev pub timed : Times → Cue → List Cue → Cue
timed times cue earlier = record cue { load = load_after cue (former_cue cue earlier); show = times.show; hide = times.hide }

-- the cues so far with the cue; where it takes the place of the former one, that one is hidden when it is shown
abbrev pub with_timed : Bool → Times → Cue → List Cue → List Cue
with_timed takes times cue earlier =
    timed times cue earlier ∷ (if takes then hidden_in times.show (kind_lane cue.kind) earlier else earlier)
