-- Believed: the program's answer stands on these definitions.
-- Delays of window cues: a cue with a DELAY above 0 is shown by a command that is sent earlier, at its delay start.
use Rattle.std.specs.Prelude.{ℕ, ◌-◌, ◌<◌, ◌≤◌, nat_lt, if◌then◌else◌, List, ◌∷◌, IfSome, Option, Some, None, unwrap_or}
use Rattle.std.specs.List.{AllByRecursion}
use Rattle.std.specs.Option.{option_to_list}
use Rattle.cc_base.specs.declared.rate.Rate.{Rate}
use Rattle.cc_base.specs.Rate.{delay_frames_of}
use Rattle.cue_types.specs.declared.cue.Cue.{Cue}
use Rattle.cue_types.specs.declared.cue.Kind.{Kind}
use Rattle.cue_types.specs.declared.cue.Kind.TheVariants as kind

-- the DELAY of a kind of cue, in tenths of a second; 0 where it has none
abbrev pub delay_of : Kind → ℕ
delay_of (kind.Pop channel) = 0
delay_of (kind.Paint channel) = 0
delay_of (kind.Roll channel rows) = 0
delay_of (kind.Win window) = window.delay

-- the frame in which the delay of a cue starts, if it has one
abbrev pub delay_start : Rate → Cue → Option ℕ
delay_start rate cue =
    if nat_lt 0 (delay_of cue.kind) then Some (cue.show - delay_frames_of rate (delay_of cue.kind)) else None

-- the frames in which a cue has an event: its HIDE, and its delay start where it has one, else its SHOW
abbrev pub event_frames : Rate → Cue → List ℕ
event_frames rate cue = unwrap_or (delay_start rate cue) cue.show ∷ option_to_list cue.hide

-- no event of the other cue lies strictly between the delay start and the SHOW of a cue that has a delay
abbrev pub IsUndisturbed : Rate → Cue → Cue → Type 0
IsUndisturbed rate cue other =
    IfSome (delay_start rate cue)
    (λ start. AllByRecursion (λ (frame : ℕ). start < frame → cue.show ≤ frame) (event_frames rate other))
