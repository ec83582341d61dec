-- Believed in part: the program's answer stands on some of these definitions.
-- The lane of a line 21 channel: the units of its cues, with what each cue asks of their place, and its events. The times of the
-- cues are in slots of the channel's field.
use Rattle.std.specs.Prelude.{ℕ, suc, if◌then◌else◌, List, [], ◌∷◌, ◌++◌, map}
use Rattle.line21_codes.specs.declared.channels.Chan.{Chan}
use Rattle.line21_codes.specs.declared.pairs.Pair.{Pair}
use Rattle.cue_lists.specs.declared.cue.Cue.{Cue}
use Rattle.line21_author.specs.Channels.{is_on}
use Rattle.line21_author.specs.CueEvents.{channel_events}
use Rattle.line21_author.specs.CueUnits.{units_of}
use Rattle.lanes.specs.declared.chunk.FieldChunk.{FieldChunk}
use Rattle.lanes.specs.FieldLane.{field_lane}
use Rattle.lanes.specs.LaneTimeline.{lane_timeline}
use Rattle.lanes.specs.Placing.{IsEarliest}
use Rattle.lanes.specs.Timeline.{slot}
use Rattle.lanes.specs.LaneEvents.{event_at}

-- the units of the cue of this number: none stands before its LOAD, and each has ended before its SHOW
abbrev pub field_cue_chunks : ℕ → Cue → List FieldChunk
field_cue_chunks number cue = map (λ unit. record { unit = unit; load = cue.load; until = cue.show; cue = number }) (units_of cue)

-- the units of the cues on a channel, where the first cue has this number
abbrev pub channel_chunks_from : Chan → ℕ → List Cue → List FieldChunk
channel_chunks_from channel number [] = []
channel_chunks_from channel number (cue ∷ cues) =
    (if is_on channel cue.kind then field_cue_chunks number cue else []) ++ channel_chunks_from channel (suc number) cues

-- the units of the cues on a channel, in the order of the cues, which are numbered from 1
abbrev pub channel_chunks : Chan → List Cue → List FieldChunk
channel_chunks channel cues = channel_chunks_from channel 1 cues

-- the units of a channel begin in these slots, in their earliest placement
abbrev pub IsChannelPlaced : Chan → List Cue → List ℕ → Type 0
IsChannelPlaced channel cues placed = IsEarliest (field_lane (channel_events channel cues)) (channel_chunks channel cues) placed

-- the pair in each slot, where the units of the channel begin in these slots
abbrev pub channel_slot : Chan → List Cue → List ℕ → ℕ → Pair
channel_slot channel cues placed = slot (lane_timeline (event_at (channel_events channel cues)) (channel_chunks channel cues) placed)
