-- Between crates: the program's answer stands on none of these definitions.
-- What two lists send in the field of a channel: the first on the field's data channel 1, the second on data channel 2.
use Rattle.std.specs.Prelude.{◌≡◌, ℕ, All}
use Rattle.line21_codes.specs.declared.channels.Chan.{Chan}
use Rattle.line21_codes.specs.Channels.{field_of_channel}
use Rattle.line21_codes.specs.Reading.{code_of}
use Rattle.line21_codes.specs.Writable.{IsWritable}
use Rattle.cue_lists.specs.Listing.{Listing}
use Rattle.line21_author.specs.CueEvents.{channel_events}
use Rattle.frame_carrier.specs.SlotLists.{slot_cues}
use Rattle.dual_fields.specs.Agreeing.{EndsBy}
use Rattle.dual_plans.specs.Placeable.{ArePlaceable, AreWritable}
use Rattle.dual_plans.specs.SecondChannel.{second_events}
use Rattle.dual_fields.specs.ChannelParts.{channel_parts}
use Rattle.dual_fields.specs.Seen.{second_parts}
use Rattle.dual_plans.specs.declared.list_lane.ListLane.{ListLane}

-- the lane has the units and events of the list's cues on the channel
pub record IsFirstLane (list : Listing) (channel : Chan) (lane : ListLane) : Type 0 where
  pub parts : lane.parts.items ≡ channel_parts channel (slot_cues list channel)
  pub events : lane.events.items ≡ channel_events channel (slot_cues list channel)

-- with their codes for data channel 2
pub record IsSecondLane (list : Listing) (channel : Chan) (lane : ListLane) : Type 0 where
  pub parts : lane.parts.items ≡ second_parts (field_of_channel channel) (channel_parts channel (slot_cues list channel))
  pub events : lane.events.items ≡ second_events (field_of_channel channel) (channel_events channel (slot_cues list channel))

-- the codes of its units and events can be written
pub record IsWritableLane (lane : ListLane) : Type 0 where
  pub parts : AreWritable lane.parts.items
  pub events : All (λ event. IsWritable (code_of event.pair)) lane.events.items

-- its units can be placed, and must have ended in this many slots
pub record HasUnitsWithin (count : ℕ) (lane : ListLane) : Type 0 where
  pub placeable : ArePlaceable lane.parts.items
  pub ends : All (EndsBy count) lane.parts.items
