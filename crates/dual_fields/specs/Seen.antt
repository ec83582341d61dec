-- Believed in part: the program's answer stands on some of these definitions.
-- What a viewer sees of a field that two cue lists share: the second list's codes are data channel 2's.
use Rattle.std.specs.Prelude.{ℕ, true, List, Option, map, option_map}
use Rattle.line21_codes.specs.declared.channels.Chan.{Chan}
use Rattle.line21_codes.specs.declared.channels.FieldNumber.{FieldNumber}
use Rattle.line21_codes.specs.declared.codes.Code.{Code}
use Rattle.line21_codes.specs.declared.codes.Code.TheVariants.{Null, Text, Xds, Control}
use Rattle.line21_codes.specs.Channels.{field_of_channel}
use Rattle.line21_codes.specs.Reading.{code_of}
use Rattle.line21_codes.specs.Writing.{pair_of_code}
use Rattle.cue_lists.specs.declared.cue.Cue.{Cue}
use Rattle.line21_author.specs.CueEvents.{channel_events}
use Rattle.line21_author.specs.declared.unit.Unit.{Unit}
use Rattle.lanes.specs.LaneEvents.{event_at}
use Rattle.lanes.specs.Timeline.{Timeline, over}
use Rattle.dual_fields.specs.declared.part.Part.{Part}
use Rattle.dual_fields.specs.Lanes.{whole}
use Rattle.dual_fields.specs.ChannelParts.{channel_parts}

-- the code of data channel 2 that does what this one does for data channel 1
abbrev pub as_second : Code → Code
as_second Null = Null
as_second (Text first second) = Text first second
as_second (Xds first second) = Xds first second
as_second (Control second control) = Control true control

-- the unit of that code in a field
abbrev pub second_unit : FieldNumber → Unit → Unit
second_unit in_field unit = record { pair = pair_of_code in_field (as_second (code_of unit.pair)); doubled = unit.doubled }

-- with each unit so
abbrev pub second_timeline : FieldNumber → Timeline → Timeline
second_timeline in_field timeline n = option_map (second_unit in_field) (timeline n)

-- a unit, and the first one of its cue, so
abbrev pub second_part : FieldNumber → Part → Part
second_part in_field part = record {
  chunk = record { unit = second_unit in_field part.chunk.unit; load = part.chunk.load; until = part.chunk.until; cue = part.chunk.cue };
  first = second_unit in_field part.first;
  later = part.later;
}

-- all of them
abbrev pub second_parts : FieldNumber → List Part → List Part
second_parts in_field parts = map (second_part in_field) parts

-- the events of the first list's channel, and the second's, with the codes of data channel 2
abbrev pub first_events : Chan → List Cue → Timeline
first_events of_list cues = event_at (channel_events of_list cues)

abbrev pub second_events : Chan → List Cue → Timeline
second_events of_list cues n = option_map (second_unit (field_of_channel of_list)) (first_events of_list cues n)

-- the field's timeline
abbrev pub field_timeline : Chan → List Cue → List Cue → List ℕ → List ℕ → List (Option ℕ) → List (Option ℕ) → Timeline
field_timeline of_list cues others fs gs rs qs =
    over (whole (first_events of_list cues) (channel_parts of_list cues) fs rs)
    (whole (second_events of_list others) (second_parts (field_of_channel of_list) (channel_parts of_list others)) gs qs)
