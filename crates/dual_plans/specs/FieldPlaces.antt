-- Believed in part: the program's answer stands on some of these definitions.
-- Two lists that go together, and where their units stand in the field of a channel.
use Rattle.std.specs.Prelude.{ℕ, List, map}
use Rattle.line21_codes.specs.declared.channels.Chan.{Chan}
use Rattle.line21_codes.specs.declared.channels.FieldNumber.{FieldNumber}
use Rattle.line21_codes.specs.Channels.{field_of_channel}
use Rattle.cue_lists.specs.Listing.{IsFormed, Listing}
use Rattle.cue_lists.specs.Rules.{IsRuled}
use Rattle.dual_plans.specs.Clashes.{IsFieldClash}
use Rattle.frame_carrier.specs.Planned.{authored_channel}
use Rattle.frame_carrier.specs.SlotLists.{slot_cues}
use Rattle.lanes.specs.Placing.{IsEarliest}
use Rattle.dual_fields.specs.FieldSlots.{first_slots, second_slots}
use Rattle.dual_fields.specs.ResumedLane.{Stand, resumed_lane}
use Rattle.dual_fields.specs.Slots.{Slots}
use Rattle.dual_fields.specs.Spans.{in_spans}
use Rattle.dual_fields.specs.declared.part.Part.{Part}
use Rattle.dual_fields.specs.ChannelParts.{channel_parts}
use Rattle.dual_fields.specs.Dual.{IsDual, Places}
use Rattle.dual_fields.specs.Seen.{first_events, second_events, second_part}
use Rattle.dual_plans.specs.OtherList.{AreAlike}

-- the units of the first list in the field of a channel, and of the second, with the codes of data channel 2
abbrev pub first_units : Listing → Chan → List Part
first_units list channel = channel_parts channel (slot_cues list channel)

abbrev pub second_units : Listing → Chan → List Part
second_units list channel = map (second_part (field_of_channel channel)) (first_units list channel)

-- the slots for the units of the first list, and for the second list's beside the first list's in these slots
abbrev pub slots_for_first : Listing → Listing → Chan → Slots
slots_for_first one two channel = first_slots (first_events channel (slot_cues one channel)) (second_events channel (slot_cues two channel))

abbrev pub slots_for_second : Listing → Listing → Chan → List ℕ → Slots
slots_for_second one two channel fs =
    second_slots (first_events channel (slot_cues one channel)) (second_events channel (slot_cues two channel)) (in_spans (first_units one channel) fs)

-- the units of both lists stand in their earliest placements, the first list's before the second's
pub record AreFieldsPlaces (one two : Listing) (channel : Chan) (places : Places) : Type 0 where
  pub first : IsEarliest (resumed_lane (slots_for_first one two channel)) (first_units one channel) places.first
  pub first_stand : Stand (slots_for_first one two channel) 0 (first_units one channel) places.first places.first_again
  pub second : IsEarliest (resumed_lane (slots_for_second one two channel places.first)) (second_units two channel) places.second
  pub second_stand : Stand (slots_for_second one two channel places.first) 0 (second_units two channel) places.second places.second_again

-- both lists keep the rules, the second is as the first asks, and no cues clash
pub record GoTogether (one two : Listing) : Type 0 where
  pub formed : IsFormed one
  pub ruled : IsRuled one
  pub second_formed : IsFormed two
  pub second_ruled : IsRuled two
  pub alike : AreAlike one two
  pub apart : (second first : ℕ) → IsFieldClash one two second first → ⊥

-- so their fields are as what a viewer sees of them asks
abbrev pub PlacedFieldsAreDual : Type 0
PlacedFieldsAreDual = (one two : Listing) → GoTogether one two → (in_field : FieldNumber) (places : Places)
    → AreFieldsPlaces one two (authored_channel in_field) places → IsDual one two (authored_channel in_field) places
