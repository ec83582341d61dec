-- Believed: the program's answer stands on these definitions.
-- The events of a channel: the end-of-caption code that shows a pop-on cue, and the erasure of the
-- displayed memory that hides a cue (CTA-608-E; 47 CFR 79.101). The times of the cues are in slots of the channel's field.
use Rattle.std.specs.Prelude.{ℕ, ◌==◌, ◌&&◌, Bool, false, if◌then◌else◌, Option, Some, None, List, [], ◌∷◌, ◌++◌}
use Rattle.line21_codes.specs.declared.channels.Chan.{Chan}
use Rattle.line21_codes.specs.declared.channels.FieldNumber.{FieldNumber}
use Rattle.line21_codes.specs.declared.codes.Control.{Control}
use Rattle.line21_codes.specs.declared.codes.Control.TheVariants.{Eoc, Edm}
use Rattle.line21_codes.specs.Writing.{pair_of_code}
use Rattle.cue_lists.specs.declared.cue.Cue.{Cue}
use Rattle.cue_lists.specs.Rules.Lane.{is_pop}
use Rattle.line21_author.specs.declared.event.Event.{Event}
use Rattle.line21_codes.specs.Channels.{field_of_channel}
use Rattle.line21_author.specs.Channels.{cues_on}
use Rattle.line21_author.specs.FirstChannel.{first_channel}

-- a control code at a slot, in a field
abbrev pub control_event : FieldNumber → ℕ → Control → Event
control_event in_field slot control = record { slot = slot; pair = pair_of_code in_field (first_channel control) }

-- a pop-on cue is shown at its SHOW; other cues are written onto the screen
abbrev pub show_events : FieldNumber → Cue → List Event
show_events in_field cue = if is_pop cue.kind then control_event in_field cue.show Eoc ∷ [] else []

-- the next cue is a pop-on cue that is shown at the slot, and so takes the place of what was displayed
abbrev pub is_replaced_at : ℕ → List Cue → Bool
is_replaced_at slot [] = false
is_replaced_at slot (next ∷ later) = is_pop next.kind && (next.show == slot)

-- a cue with a HIDE is erased there, unless the next cue replaces it then
abbrev pub hide_events : FieldNumber → Option ℕ → List Cue → List Event
hide_events in_field None later = []
hide_events in_field (Some hide) later = if is_replaced_at hide later then [] else control_event in_field hide Edm ∷ []

-- the events of cues that follow one another on a channel
abbrev pub cue_events : FieldNumber → List Cue → List Event
cue_events in_field [] = []
cue_events in_field (cue ∷ later) =
    show_events in_field cue ++ hide_events in_field cue.hide later ++ cue_events in_field later

-- the events of a channel's cues among a list's cues
abbrev pub channel_events : Chan → List Cue → List Event
channel_events channel cues = cue_events (field_of_channel channel) (cues_on channel cues)
