-- What placing the first list beside the second answers: its fields, and its services.
use Rattle.std.proofs.Common.{◌≡◌, ◌<◌, ◌⊎◌, inl, inr, ℕ, List, min, sym, subst, arith, Option}
use Rattle.std.specs.Prelude.{IfErr, IfOk, Result, Ok, Err, Vec}
use Rattle.std.specs.Global.{Global}
use Rattle.std.specs.Result.{result_err}
use Rattle.std.proofs.lemmas.Bool.{cases_lt}
use Rattle.line21_codes.specs.declared.channels.Chan.{Chan}
use Rattle.line21_codes.specs.declared.channels.Chan.TheVariants.{Cc1, Cc3}
use Rattle.line21_codes.specs.declared.channels.FieldNumber.{FieldNumber}
use Rattle.line21_codes.specs.declared.channels.FieldNumber.TheVariants.{One, Two}
use Rattle.cue_lists.specs.Listing.{IsFormed, Listing}
use Rattle.cue_lists.specs.Rules.{IsRuled}
use Rattle.cue_lists.specs.declared.lane.Lane.{Lane}
use Rattle.cue_lists.specs.declared.lane.Lane.TheVariants.{Channel, Service}
use Rattle.lanes.specs.LaneRoom.{AreInCueOrder, HasRoom}
use Rattle.lanes.specs.declared.planning.PlanFault.{PlanFault}
use Rattle.lanes.specs.declared.planning.PlanFault.TheVariants.{Memory, NoRoom}
use Rattle.lanes.proofs.LaneRoomLemmas.{room_all}
use Rattle.lanes.specs.ServicePlan.{PlannedService}
use Rattle.frame_carrier.specs.LaneSets.{IsFaultIn, IsFirstIn, IsServiceBelow, earlier_fault, fault_beside}
use Rattle.frame_carrier.specs.Planned.{LaneHasRoom}
use Rattle.frame_carrier.specs.ServicePlans.{AreServices}
use Rattle.frame_carrier.proofs.PlanLemmas.{far_roomy}
use Rattle.frame_carrier.proofs.ServicesLemmas.{below_roomy}
use Rattle.dual_fields.specs.Filled.{IsFault, IsFilled, slots_at}
use Rattle.dual_fields.specs.Parts.{part_cue}
use Rattle.dual_fields.specs.ResumedLane.{resumed_lane}
use Rattle.dual_fields.specs.Slots.{Slots}
use Rattle.dual_fields.specs.declared.part.Part.{Part}
use Rattle.dual_fields.specs.declared.place.Place.{Place}
use Rattle.dual_plans.specs.DualAnswer.{FieldHasRoom, IsFirstWithout}
use Rattle.dual_plans.specs.DualParts.{AreStarted, IsFieldsFault, IsFirstFault}
use Rattle.dual_plans.specs.FieldFaults.{IsFaultOf, IsFirstOfFields}
use Rattle.dual_plans.specs.FieldPlaces.{first_units, slots_for_first}
use Rattle.dual_plans.specs.StartedFields.{IsStarted}
use Rattle.dual_plans.specs.declared.field.StartedField.{StartedField}
use Rattle.dual_plans.proofs.DualLemmas.{first_filled}
use Rattle.dual_plans.proofs.RoomLemmas.{IsFirstOfField, fault_both, fault_one, fault_two}

-- the fault of a lane is its field's
pub lane_fault : (slots : Slots) (parts : List Part) (fault : PlanFault) → IsFault slots parts fault
    → IsFaultOf (IsFirstOfField (λ cue. HasRoom (resumed_lane slots) part_cue parts cue)) fault
lane_fault slots parts (Memory error) is = tt
lane_fault slots parts (NoRoom cue) is = record { none = is.none; first = is.first }

-- where the units of a lane stand, each cue has room
pub filled_room : (slots : Slots) (parts : List Part) (places : List Place) → AreInCueOrder part_cue parts → IsFilled slots parts places
    → (cue : ℕ) → HasRoom (resumed_lane slots) part_cue parts cue
filled_room slots parts places order filled cue = room_all part_cue (resumed_lane slots) parts order (slots_at places) filled.earliest.placed cue

module _ (one two : Listing) where
  pub started_room : (channel : Chan) (field : StartedField) → IsStarted one two channel field
      → (cue : ℕ) → HasRoom (resumed_lane (slots_for_first one two channel)) part_cue (first_units one channel) cue
  started_room channel field is cue =
      filled_room (slots_for_first one two channel) (first_units one channel) field.places.items
      (subst (AreInCueOrder part_cue) is.one_is.parts is.one_within.placeable.order)
      (first_filled one two channel field.one field.two is.one_is is.two_is field.places.items is.filled) cue

  -- what field 2 answers where field 1 has no room
  pub one_refused : (fault : PlanFault) (other : Result StartedField PlanFault) (beside : Option PlanFault)
      → IsFault (slots_for_first one two Cc1) (first_units one Cc1) fault → IfOk other (IsStarted one two Cc3)
      → IfErr other (IsFault (slots_for_first one two Cc3) (first_units one Cc3)) → beside ≡ result_err other
      → IsFieldsFault one two (fault_beside fault beside)
  one_refused fault (Ok field) beside is started refused same =
      subst (λ o. IsFieldsFault one two (fault_beside fault o)) (sym same)
      (fault_one (FieldHasRoom one two) fault (lane_fault (slots_for_first one two Cc1) (first_units one Cc1) fault is)
      (started_room Cc3 field started))
  one_refused fault (Err error) beside is started refused same =
      subst (λ o. IsFieldsFault one two (fault_beside fault o)) (sym same)
      (fault_both (FieldHasRoom one two) fault error (lane_fault (slots_for_first one two Cc1) (first_units one Cc1) fault is)
      (lane_fault (slots_for_first one two Cc3) (first_units one Cc3) error refused))

  -- and where it has
  pub two_refused : (fault : PlanFault) (field : StartedField) → IsStarted one two Cc1 field
      → IsFault (slots_for_first one two Cc3) (first_units one Cc3) fault → IsFieldsFault one two fault
  two_refused fault field started is =
      fault_two (FieldHasRoom one two) fault (lane_fault (slots_for_first one two Cc3) (first_units one Cc3) fault is)
      (started_room Cc1 field started)

  module _ (formed : IsFormed one) (ruled : IsRuled one) where
    -- where the services below 7 have room for a cue, all have
    services_room : (cue : ℕ) → ((on : Lane) → IsServiceBelow 7 on → LaneHasRoom one on cue) → (service : ℕ) → LaneHasRoom one (Service service) cue
    services_room cue below service =
        elim (cases_lt service 7) [
          | inl low ↦ below (Service service) low
          | inr far ↦ far_roomy one formed ruled service far cue
        ]

    with_services : (cue : ℕ) → IsFirstOfFields (FieldHasRoom one two) cue
        → ((earlier : ℕ) → earlier < cue → (on : Lane) → IsServiceBelow 7 on → LaneHasRoom one on earlier) → IsFirstWithout one two cue
    with_services cue is other = record {
      none = inl is.none;
      fields = is.first;
      services = λ earlier below. services_room earlier (other earlier below);
    }

    lacking : (cue : ℕ) → IsFirstIn (IsServiceBelow 7) one cue
        → ((in_field : FieldNumber) × (FieldHasRoom one two in_field cue → ⊥)) ⊎ ((service : ℕ) × (LaneHasRoom one (Service service) cue → ⊥))
    lacking cue is = of_lane is.none.0 is.none.1 is.none.2
      where
        of_lane : (on : Lane) → IsServiceBelow 7 on → (LaneHasRoom one on cue → ⊥)
            → ((in_field : FieldNumber) × (FieldHasRoom one two in_field cue → ⊥)) ⊎ ((service : ℕ) × (LaneHasRoom one (Service service) cue → ⊥))
        of_lane (Channel channel) below lacks = absurd below
        of_lane (Service service) below lacks = inr (service, lacks)

    with_fields : (cue : ℕ) → IsFirstIn (IsServiceBelow 7) one cue
        → ((earlier : ℕ) → earlier < cue → (in_field : FieldNumber) → FieldHasRoom one two in_field earlier) → IsFirstWithout one two cue
    with_fields cue is other = record {
      none = lacking cue is;
      fields = other;
      services = λ earlier below. services_room earlier (is.first earlier below);
    }

    both_lack : (a b : ℕ) → IsFirstOfFields (FieldHasRoom one two) a → IsFirstIn (IsServiceBelow 7) one b
        → IsFirstWithout one two (min a b)
    both_lack a b fields services =
        elim (cases_lt a b) [
          | inl less ↦ let is : min a b ≡ a = omega arith in
              subst (IsFirstWithout one two) (sym is) (with_services a fields (λ earlier below. services.first earlier (omega arith)))
          | inr most ↦ let is : min a b ≡ b = omega arith in
              subst (IsFirstWithout one two) (sym is) (with_fields b services (λ earlier below. fields.first earlier (omega arith)))
        ]

    both_faults : (a b : PlanFault) → IsFieldsFault one two a → IsFaultIn (IsServiceBelow 7) one b → IsFirstFault one two (earlier_fault a b)
    both_faults (Memory error) b fields services = tt
    both_faults (NoRoom a) (Memory error) fields services = tt
    both_faults (NoRoom a) (NoRoom b) fields services = both_lack a b fields services

    fields_fault : (fault : PlanFault) → IsFieldsFault one two fault → ((on : Lane) → IsServiceBelow 7 on → (cue : ℕ) → LaneHasRoom one on cue)
        → IsFirstFault one two fault
    fields_fault (Memory error) is roomy = tt
    fields_fault (NoRoom cue) is roomy = with_services cue is (λ earlier below on low. roomy on low earlier)

    -- what the services answer where the fields have no room
    pub fields_refused : (fault : PlanFault) (services : Result (Vec PlannedService Global) PlanFault) (beside : Option PlanFault) → IsFieldsFault one two fault
        → AreServices one 7 services → beside ≡ result_err services → IsFirstFault one two (fault_beside fault beside)
    fields_refused fault (Ok plans) beside is are same =
        subst (λ o. IsFirstFault one two (fault_beside fault o)) (sym same) (fields_fault fault is (below_roomy one formed ruled 7 plans.items are))
    fields_refused fault (Err error) beside is are same =
        subst (λ o. IsFirstFault one two (fault_beside fault o)) (sym same) (both_faults fault error is are)

    -- and where they have
    pub services_refused : (fault : PlanFault) (in_one in_two : StartedField) → AreStarted one two in_one in_two → AreServices one 7 (Err fault)
        → IsFirstFault one two fault
    services_refused (Memory error) in_one in_two are is = tt
    services_refused (NoRoom cue) in_one in_two are is = with_fields cue is (λ earlier below. have_room earlier)
      where
        have_room : (earlier : ℕ) (in_field : FieldNumber) → FieldHasRoom one two in_field earlier
        have_room earlier One = started_room Cc1 in_one are.one_is earlier
        have_room earlier Two = started_room Cc3 in_two are.two_is earlier
