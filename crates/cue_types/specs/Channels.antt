-- Believed in part: the program's answer stands on some of these definitions.
-- The cues of each channel of line 21, of each service of DTVCC, and of each of its windows, in the order of the list.
use Rattle.std.specs.Prelude.{ℕ, ◌==◌, ◌&&◌, Bool, false, List}
use Rattle.std.specs.List.{filter}
use Rattle.line21_codes.specs.declared.channels.Chan.{Chan}
use Rattle.cue_types.specs.Lane.{kind_lane, same_lane}
use Rattle.cue_types.specs.declared.cue.Cue.{Cue}
use Rattle.cue_types.specs.declared.cue.Kind.{Kind}
use Rattle.cue_types.specs.declared.cue.Kind.TheVariants.{Pop, Paint, Roll, Win}
use Rattle.cue_types.specs.declared.lane.Lane.TheVariants.{Channel, Service}

-- a cue of the kind is on the channel; a window cue is on none
abbrev pub is_on : Chan → Kind → Bool
is_on channel kind = same_lane (Channel channel) (kind_lane kind)

-- the cues on a channel, in their order
abbrev pub cues_on : Chan → List Cue → List Cue
cues_on channel cues = filter (λ cue. is_on channel cue.kind) cues

-- a cue of the kind is of the service; a line 21 cue is of none
abbrev pub is_of_service : ℕ → Kind → Bool
is_of_service service kind = same_lane (Service service) (kind_lane kind)

-- the cues of a service, in their order
abbrev pub cues_of_service : ℕ → List Cue → List Cue
cues_of_service service cues = filter (λ cue. is_of_service service cue.kind) cues

-- a cue of the kind is in the window of this ID of the service
abbrev pub uses_window : ℕ → ℕ → Kind → Bool
uses_window service id (Pop channel) = false
uses_window service id (Paint channel) = false
uses_window service id (Roll channel rows) = false
uses_window service id (Win window) = (service == window.service) && (id == window.id)
