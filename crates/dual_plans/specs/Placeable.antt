-- Between crates: the program's answer stands on none of these definitions.
-- The units and events of a channel's cues are as placing and coding them for data channel 2 ask.
use Rattle.std.specs.Prelude.{◌≡◌, ℕ, List, All}
use Rattle.line21_codes.specs.declared.channels.Chan.{Chan}
use Rattle.line21_codes.specs.declared.channels.FieldNumber.{FieldNumber}
use Rattle.line21_codes.specs.Channels.{field_of_channel}
use Rattle.line21_codes.specs.Reading.{code_of}
use Rattle.line21_codes.specs.Writable.{IsWritable}
use Rattle.cue_lists.specs.Listing.{IsFormed, Listing}
use Rattle.cue_lists.specs.Rules.{IsRuled}
use Rattle.cue_lists.specs.declared.cue.Cue.{Cue}
use Rattle.line21_author.specs.CueEvents.{channel_events}
use Rattle.line21_author.specs.declared.event.Event.{Event}
use Rattle.lanes.specs.LaneEvents.{event_at}
use Rattle.frame_carrier.specs.SlotLists.{slot_cues}
use Rattle.lanes.specs.LaneRoom.{AreInCueOrder}
use Rattle.dual_fields.specs.Parts.{BeginWithFirst, IsBegun, part_cue}
use Rattle.dual_fields.specs.declared.part.Part.{Part}
use Rattle.dual_fields.specs.ChannelParts.{channel_parts}
use Rattle.dual_fields.specs.Seen.{second_parts, second_timeline}
use Rattle.dual_plans.specs.SecondChannel.{second_events}

-- the units can be placed: each cue begins with a doubled unit, and the cues are in order
pub record ArePlaceable (parts : List Part) : Type 0 where
  pub begun : All IsBegun parts
  pub order : AreInCueOrder part_cue parts
  pub first : BeginWithFirst parts

-- their codes can be written
pub record AreWritable (parts : List Part) : Type 0 where
  pub units : All (λ part. IsWritable (code_of part.chunk.unit.pair)) parts
  pub firsts : All (λ part. IsWritable (code_of part.first.pair)) parts

-- so they can on both channels of the field, and so can the events
pub record IsChannelReady (in_field : FieldNumber) (channel : Chan) (cues : List Cue) : Type 0 where
  pub placeable : ArePlaceable (channel_parts channel cues)
  pub second : ArePlaceable (second_parts in_field (channel_parts channel cues))
  pub writable : AreWritable (channel_parts channel cues)
  pub events : All (λ event. IsWritable (code_of event.pair)) (channel_events channel cues)

abbrev pub ChannelsAreReady : Type 0
ChannelsAreReady = (list : Listing) (channel : Chan) → IsFormed list → IsRuled list → IsChannelReady (field_of_channel channel) channel (slot_cues list channel)

-- the events with the codes for data channel 2 begin where theirs do
abbrev pub SecondEventsBegin : Type 0
SecondEventsBegin = (in_field : FieldNumber) (events : List Event) (n : ℕ)
    → event_at (second_events in_field events) n ≡ second_timeline in_field (event_at events) n
