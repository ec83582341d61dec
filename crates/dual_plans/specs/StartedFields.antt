-- Between crates: the program's answer stands on none of these definitions.
-- A field in which the units of the first of two lists stand.
use Rattle.line21_codes.specs.declared.channels.Chan.{Chan}
use Rattle.cue_lists.specs.Listing.{Listing}
use Rattle.lanes.specs.LaneEvents.{event_at}
use Rattle.frame_carrier.specs.SlotLists.{slots_in_list}
use Rattle.dual_fields.specs.FieldSlots.{first_slots}
use Rattle.dual_fields.specs.Filled.{IsFilled}
use Rattle.dual_plans.specs.ListLanes.{HasUnitsWithin, IsFirstLane, IsSecondLane}
use Rattle.dual_plans.specs.declared.field.StartedField.{StartedField}

-- it has what both lists send in the field of the channel, and the units of the first stand in their earliest placement
pub record IsStarted (one two : Listing) (channel : Chan) (field : StartedField) : Type 0 where
  pub one_is : IsFirstLane one channel field.one
  pub two_is : IsSecondLane two channel field.two
  pub one_within : HasUnitsWithin (slots_in_list one channel) field.one
  pub two_within : HasUnitsWithin (slots_in_list two channel) field.two
  pub filled : IsFilled (first_slots (event_at field.one.events.items) (event_at field.two.events.items)) field.one.parts.items field.places.items
