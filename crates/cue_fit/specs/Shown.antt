-- Believed: the program's answer stands on these definitions.
-- A cue that is shown later than it asks, after the cues so far, which are a list with the newest first.
use Rattle.std.specs.Prelude.{ℕ, ◌==◌, ◌&&◌, max, Bool, false, if◌then◌else◌, List, [], ◌∷◌, Option, Some, None}
use Rattle.cue_lists.specs.Hide.{hide_is}
use Rattle.cue_lists.specs.Rules.Former.{former_cue}
use Rattle.cue_lists.specs.Lane.{is_line21, is_pop, kind_lane, on_lane}
use Rattle.cue_lists.specs.declared.cue.Cue.{Cue}
use Rattle.cue_lists.specs.declared.lane.Lane.{Lane}

-- a pop-on cue takes the place of the former one that is hidden in the frame in which it is shown
abbrev pub takes_place : Cue → Option Cue → Bool
takes_place cue None = false
takes_place cue (Some former) = is_pop cue.kind && hide_is former.hide (λ hide. hide == cue.show)

-- after the former cue of its channel a cue isn't loaded before that one is shown
abbrev pub load_after : Cue → Option Cue → ℕ
load_after cue None = cue.load
load_after cue (Some former) = if is_line21 cue.kind then max cue.load former.show else cue.load

-- the cue, shown in this frame
abbrev pub shown_in : ℕ → Cue → List Cue → Cue
shown_in frame cue earlier = record cue { load = load_after cue (former_cue cue earlier); show = frame }

-- the cues, the newest of which on the lane is hidden in this frame
abbrev pub hidden_in : ℕ → Lane → List Cue → List Cue
hidden_in frame on [] = []
hidden_in frame on (cue ∷ earlier) =
    if on_lane on cue then record cue { hide = Some frame } ∷ earlier else cue ∷ hidden_in frame on earlier

-- the cues so far with the cue: where it takes the place of the former one, the HIDE of that one goes with it
abbrev pub with_shown : ℕ → Cue → List Cue → List Cue
with_shown frame cue earlier =
    shown_in frame cue earlier
    ∷ (if takes_place cue (former_cue cue earlier) then hidden_in frame (kind_lane cue.kind) earlier else earlier)
