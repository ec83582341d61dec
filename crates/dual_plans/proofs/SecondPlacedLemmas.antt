-- What placing the second list beside the first answers.
use Rattle.std.proofs.Common.{◌≡◌, ℕ, sym, subst, Option}
use Rattle.std.specs.Prelude.{IfErr, IfOk, Result, Ok, Err, Vec}
use Rattle.std.specs.Global.{Global}
use Rattle.std.specs.Result.{result_err}
use Rattle.line21_codes.specs.declared.channels.Chan.{Chan}
use Rattle.line21_codes.specs.declared.channels.Chan.TheVariants.{Cc1, Cc3}
use Rattle.line21_codes.specs.declared.channels.FieldNumber.{FieldNumber}
use Rattle.line21_codes.specs.declared.channels.FieldNumber.TheVariants.{One, Two}
use Rattle.cue_lists.specs.Listing.{Listing}
use Rattle.lanes.specs.LaneRoom.{AreInCueOrder, HasRoom}
use Rattle.lanes.specs.declared.planning.PlanFault.{PlanFault}
use Rattle.lanes.specs.declared.planning.PlanFault.TheVariants.{NoRoom}
use Rattle.frame_carrier.specs.LaneSets.{fault_beside}
use Rattle.frame_carrier.proofs.PlanLemmas.{frames_of}
use Rattle.lanes.specs.Placing.{IsEarliest}
use Rattle.dual_fields.specs.Filled.{IsFault, IsFilled, slots_at}
use Rattle.dual_fields.specs.Parts.{part_cue}
use Rattle.dual_fields.specs.ResumedLane.{resumed_lane}
use Rattle.dual_fields.specs.declared.place.Place.{Place}
use Rattle.frame_carrier.specs.Planned.{authored_channel}
use Rattle.dual_plans.specs.DualAnswer.{HasRoomBeside, IsDualFault}
use Rattle.dual_plans.specs.DualParts.{IsFirstPlaced, IsSecondFault, slots_placed}
use Rattle.dual_plans.specs.FieldPlaces.{GoTogether, first_units, second_units, slots_for_first, slots_for_second}
use Rattle.dual_plans.specs.StartedFields.{IsStarted}
use Rattle.dual_plans.specs.declared.fault.DualFault.TheVariants as refusals
use Rattle.dual_plans.specs.declared.field.StartedField.{StartedField}
use Rattle.dual_plans.specs.declared.plan.FirstPlaced.{FirstPlaced}
use Rattle.dual_plans.proofs.DualLemmas.{first_filled}
use Rattle.dual_plans.proofs.FirstPlacedLemmas.{filled_room, lane_fault}
use Rattle.dual_plans.proofs.RoomLemmas.{fault_both, fault_one, fault_two}

module _ (one two : Listing) where
  second_room : (channel : Chan) (field : StartedField) → IsStarted one two channel field → (places : Vec Place Global)
      → IsFilled (slots_for_second one two channel (slots_at field.places.items)) (second_units two channel) places.items
      → (cue : ℕ) → HasRoom (resumed_lane (slots_for_second one two channel (slots_at field.places.items))) part_cue (second_units two channel) cue
  second_room channel field is places filled cue =
      filled_room (slots_for_second one two channel (slots_at field.places.items)) (second_units two channel) places.items
      (subst (AreInCueOrder part_cue) is.two_is.parts is.two_within.placeable.order) filled cue

  module _ (placed : FirstPlaced) (are : IsFirstPlaced one two placed) where
    -- what field 2 answers where field 1 has no room
    pub one_refused_beside : (fault : PlanFault) (other : Result (Vec Place Global) PlanFault) (beside : Option PlanFault)
        → IsFault (slots_for_second one two Cc1 (slots_at placed.one.places.items)) (second_units two Cc1) fault
        → IfOk other (λ places. IsFilled (slots_for_second one two Cc3 (slots_at placed.two.places.items)) (second_units two Cc3) places.items)
        → IfErr other (IsFault (slots_for_second one two Cc3 (slots_at placed.two.places.items)) (second_units two Cc3)) → beside ≡ result_err other
        → IsSecondFault one two placed (fault_beside fault beside)
    one_refused_beside fault (Ok places) beside is filled refused same =
        subst (λ o. IsSecondFault one two placed (fault_beside fault o)) (sym same)
        (fault_one (λ in_field. HasRoomBeside one two in_field (slots_placed placed in_field)) fault
        (lane_fault (slots_for_second one two Cc1 (slots_at placed.one.places.items)) (second_units two Cc1) fault is)
        (second_room Cc3 placed.two are.fields.two_is places filled))
    one_refused_beside fault (Err error) beside is filled refused same =
        subst (λ o. IsSecondFault one two placed (fault_beside fault o)) (sym same)
        (fault_both (λ in_field. HasRoomBeside one two in_field (slots_placed placed in_field)) fault error
        (lane_fault (slots_for_second one two Cc1 (slots_at placed.one.places.items)) (second_units two Cc1) fault is)
        (lane_fault (slots_for_second one two Cc3 (slots_at placed.two.places.items)) (second_units two Cc3) error refused))

    -- and where it has
    pub two_refused_beside : (fault : PlanFault) (places : Vec Place Global)
        → IsFilled (slots_for_second one two Cc1 (slots_at placed.one.places.items)) (second_units two Cc1) places.items
        → IsFault (slots_for_second one two Cc3 (slots_at placed.two.places.items)) (second_units two Cc3) fault → IsSecondFault one two placed fault
    two_refused_beside fault places filled is =
        fault_two (λ in_field. HasRoomBeside one two in_field (slots_placed placed in_field)) fault
        (lane_fault (slots_for_second one two Cc3 (slots_at placed.two.places.items)) (second_units two Cc3) fault is)
        (second_room Cc1 placed.one are.fields.one_is places filled)

    -- the units of the first list stand in their earliest placements
    pub first_earliest : (in_field : FieldNumber)
        → IsEarliest (resumed_lane (slots_for_first one two (authored_channel in_field))) (first_units one (authored_channel in_field)) (slots_placed placed in_field)
    first_earliest One =
        (first_filled one two Cc1 placed.one.one placed.one.two are.fields.one_is.one_is are.fields.one_is.two_is placed.one.places.items
        are.fields.one_is.filled).earliest
    first_earliest Two =
        (first_filled one two Cc3 placed.two.one placed.two.two are.fields.two_is.one_is are.fields.two_is.two_is placed.two.places.items
        are.fields.two_is.filled).earliest

    -- so a fault of the second list is a fault of the pair of lists
    pub second_told : GoTogether one two → (cue : ℕ) → IsSecondFault one two placed (NoRoom cue) → IsDualFault one two (refusals.NoRoomBeside cue)
    second_told together cue is = (
      together,
      record {
        placed = slots_placed placed;
        fields = first_earliest;
        services = frames_of one together.formed together.ruled placed.services.items are.services;
        none = is.none;
        first = is.first;
      },
    )
