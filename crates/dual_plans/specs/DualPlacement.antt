-- Believed: the program's answer stands on these definitions.
-- Two lists of which all units are placed, and what their frames carry.
use Rattle.std.specs.Prelude.{ℕ, Option, option_map}
use Rattle.line21_codes.specs.declared.channels.Chan.{Chan}
use Rattle.line21_codes.specs.declared.channels.Chan.TheVariants.{Cc1, Cc3}
use Rattle.line21_codes.specs.declared.channels.FieldNumber.{FieldNumber}
use Rattle.line21_codes.specs.declared.channels.FieldNumber.TheVariants.{One, Two}
use Rattle.line21_codes.specs.declared.pairs.Pair.{Pair}
use Rattle.cue_lists.specs.Cadences.{cadence_of, slot_in}
use Rattle.cue_lists.specs.Listing.{Listing}
use Rattle.cue_lists.specs.declared.lane.Lane.TheVariants.{Service}
use Rattle.frame_carrier.specs.Columns.{Columns}
use Rattle.frame_carrier.specs.Planned.{IsLanePlaced, Placement, authored_channel, frame_blocks}
use Rattle.frame_carrier.specs.SlotLists.{slot_cues}
use Rattle.lanes.specs.Timeline.{Timeline, over, slot}
use Rattle.dual_fields.specs.Dual.{Places}
use Rattle.dual_fields.specs.Lanes.{whole}
use Rattle.dual_fields.specs.Seen.{first_events, second_events}
use Rattle.dual_plans.specs.FieldPlaces.{AreFieldsPlaces, first_units, second_units}

-- where the units of both lists stand in each field, and of the first list's services
pub record DualPlacement : Type 0 where
  pub fields : FieldNumber → Places
  pub services : Placement

-- all stand in their earliest placements
pub record IsDualPlaced (one two : Listing) (placed : DualPlacement) : Type 0 where
  pub fields : (in_field : FieldNumber) → AreFieldsPlaces one two (authored_channel in_field) (placed.fields in_field)
  pub services : (service : ℕ) → IsLanePlaced one (Service service) (placed.services (Service service))

-- the pair of a frame in the field of a channel, if the frame has a slot of it: of the first list's lane, and else of the second's
abbrev pub both_pair : Listing → Listing → Chan → Places → ℕ → Option Pair
both_pair one two channel places frame =
    let first : Timeline = whole (first_events channel (slot_cues one channel)) (first_units one channel) places.first places.first_again in
    let second : Timeline = whole (second_events channel (slot_cues two channel)) (second_units two channel) places.second places.second_again in
    option_map (slot (over first second)) (slot_in (cadence_of one.rate channel) frame)

-- what each frame carries: the events and units of both lists in both fields, and the first list's service blocks
abbrev pub dual_columns : Listing → Listing → DualPlacement → Columns
dual_columns one two placed frame = record {
  one = both_pair one two Cc1 (placed.fields One) frame;
  two = both_pair one two Cc3 (placed.fields Two) frame;
  blocks = record { items = frame_blocks one placed.services frame };
}
