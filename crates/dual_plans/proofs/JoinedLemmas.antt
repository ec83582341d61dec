-- The frames of two lists whose units are placed.
use Rattle.std.proofs.Common.{◌≡◌, ◌∙◌, ℕ, List, [], ◌∷◌, Option, All, option_map, ap, refl, sym, subst}
use Rattle.cc_base.specs.declared.rate.Rate.{Rate}
use Rattle.line21_codes.specs.declared.channels.Chan.{Chan}
use Rattle.line21_codes.specs.declared.channels.Chan.TheVariants.{Cc1, Cc3}
use Rattle.line21_codes.specs.declared.channels.FieldNumber.{FieldNumber}
use Rattle.line21_codes.specs.declared.channels.FieldNumber.TheVariants.{One, Two}
use Rattle.line21_codes.specs.declared.pairs.Pair.{Pair}
use Rattle.cue_lists.specs.Cadences.{cadence_of, slot_from, slot_in}
use Rattle.cue_lists.proofs.CadenceLemmas.{slot_from_first}
use Rattle.cue_lists.specs.Listing.{Listing}
use Rattle.cue_lists.specs.declared.lane.Lane.TheVariants.{Service}
use Rattle.lanes.specs.ServicePlan.{PlannedService}
use Rattle.frame_carrier.specs.Blocks.{blocks_of}
use Rattle.frame_carrier.specs.Columns.{Columns}
use Rattle.frame_carrier.specs.Frames.{GivesFrom}
use Rattle.lanes.specs.LaneEvents.{event_at}
use Rattle.lanes.specs.FieldPlan.{PlannedField, lane_pair}
use Rattle.frame_carrier.specs.Planned.{IsLanePlaced, authored_channel}
use Rattle.frame_carrier.specs.SlotLists.{slot_cues}
use Rattle.lanes.specs.Timeline.{Timeline, over, slot}
use Rattle.frame_carrier.specs.FrameBytes.{FrameBytes}
use Rattle.frame_carrier.specs.Plan.{Plan}
use Rattle.frame_carrier.proofs.LanesLemmas.{placement}
use Rattle.frame_carrier.proofs.PlanLemmas.{frames_of, planned_blocks, planned_start}
use Rattle.dual_fields.specs.Filled.{IsFilled, resumes_at, slots_at}
use Rattle.dual_fields.specs.declared.part.Part.{Part}
use Rattle.dual_fields.specs.declared.place.Place.{Place}
use Rattle.dual_plans.specs.Beside.{beside}
use Rattle.dual_plans.specs.Joined.{IsLaneOf}
use Rattle.dual_plans.specs.SecondLanes.{LaysBoth}
use Rattle.dual_plans.specs.declared.second_lanes.SecondLanes.{SecondLanes}
use Rattle.dual_plans.proofs.SharedJoinedLemmas.{lanes_joined}
use Rattle.dual_fields.specs.Dual.{Places}
use Rattle.dual_fields.specs.Lanes.{whole}
use Rattle.dual_fields.specs.Seen.{first_events, second_events}
use Rattle.dual_fields.specs.Together.{AreTogether}
use Rattle.dual_plans.specs.DualAnswer.{IsPlanned}
use Rattle.dual_plans.specs.DualParts.{IsFirstPlaced, IsSecondPlaced}
use Rattle.dual_plans.specs.DualPlacement.{DualPlacement, both_pair, dual_columns}
use Rattle.dual_plans.specs.FieldPlaces.{AreFieldsPlaces, GoTogether, first_units, second_units, slots_for_second}
use Rattle.dual_plans.specs.StartedFields.{IsStarted}
use Rattle.dual_plans.specs.declared.field.StartedField.{StartedField}
use Rattle.dual_plans.specs.declared.plan.FirstPlaced.{FirstPlaced}
use Rattle.dual_plans.specs.declared.plan.SecondPlaced.{SecondPlaced}
use Rattle.dual_plans.proofs.DualLemmas.{first_at, first_filled, placed_dual, second_at}
use Rattle.dual_plans.proofs.StandLemmas.{lists_first, lists_second}

-- a field in which the units of both lists stand
abbrev pub places_of : StartedField → List Place → Places
places_of field seconds = record {
  first = slots_at field.places.items;
  first_again = resumes_at field.places.items;
  second = slots_at seconds;
  second_again = resumes_at seconds;
}

module _ (one two : Listing) (go_together : GoTogether one two) (in_field : FieldNumber) (field : StartedField)
    (is : IsStarted one two (authored_channel in_field) field) (seconds : List Place)
    (filled : IsFilled (slots_for_second one two (authored_channel in_field) (slots_at field.places.items)) (second_units two (authored_channel in_field)) seconds) where
  pub are_places : AreFieldsPlaces one two (authored_channel in_field) (places_of field seconds)
  are_places =
      let first = first_filled one two (authored_channel in_field) field.one field.two is.one_is is.two_is field.places.items is.filled in
      record { first = first.earliest; first_stand = first.stand; second = filled.earliest; second_stand = filled.stand }

  -- its lanes stand together
  stand_together : AreTogether (event_at field.one.events.items) (event_at field.two.events.items) field.one.parts.items field.two.parts.items
      (slots_at field.places.items) (slots_at seconds) (resumes_at field.places.items) (resumes_at seconds)
  stand_together =
      let channel = authored_channel in_field in
      let places = places_of field seconds in
      let dual = placed_dual one two go_together in_field places are_places in
      let all : AreTogether (first_events channel (slot_cues one channel)) (second_events channel (slot_cues two channel)) (first_units one channel) (second_units two channel)
      places.first places.second places.first_again places.second_again = record {
        first = lists_first one channel go_together.formed go_together.ruled;
        second = lists_second two channel go_together.second_formed go_together.second_ruled;
        clash = dual.clash;
        stand = dual.stand;
        beside = dual.beside;
      } in
      subst (λ (t : Timeline). AreTogether t (event_at field.two.events.items) field.one.parts.items field.two.parts.items
      places.first places.second places.first_again places.second_again) (sym (first_at one two channel field.one field.two is.one_is is.two_is))
      (subst (λ (t : Timeline). AreTogether (first_events channel (slot_cues one channel)) t field.one.parts.items field.two.parts.items
      places.first places.second places.first_again places.second_again) (sym (second_at one two channel field.one field.two is.one_is is.two_is))
      (subst (λ (ps : List Part). AreTogether (first_events channel (slot_cues one channel)) (second_events channel (slot_cues two channel)) ps field.two.parts.items
      places.first places.second places.first_again places.second_again) (sym is.one_is.parts)
      (subst (λ (ps : List Part). AreTogether (first_events channel (slot_cues one channel)) (second_events channel (slot_cues two channel)) (first_units one channel) ps
      places.first places.second places.first_again places.second_again) (sym is.two_is.parts) all)))

  -- so each frame has the pair of both
  pub pair_joined : (first second : PlannedField)
      → IsLaneOf field.one.events.items field.one.parts.items (slots_at field.places.items) (resumes_at field.places.items) first
      → IsLaneOf field.two.events.items field.two.parts.items (slots_at seconds) (resumes_at seconds) second → (frame : ℕ)
      → both_pair one two (authored_channel in_field) (places_of field seconds) frame
      ≡ beside (lane_pair (cadence_of one.rate (authored_channel in_field)) first frame) (lane_pair (cadence_of one.rate (authored_channel in_field)) second frame)
  pair_joined first second first_is second_is frame =
      let channel = authored_channel in_field in
      let places = places_of field seconds in
      let at = slot_in (cadence_of one.rate channel) frame in
      sym
      (lanes_joined (cadence_of one.rate channel) field.one.events.items field.two.events.items field.one.parts.items field.two.parts.items
      places.first places.second places.first_again places.second_again first second first_is second_is stand_together frame
      ∙ ap (λ (t : Timeline). option_map (slot (over (whole t field.one.parts.items places.first places.first_again)
      (whole (event_at field.two.events.items) field.two.parts.items places.second places.second_again))) at)
      (first_at one two channel field.one field.two is.one_is is.two_is)
      ∙ ap (λ (t : Timeline). option_map (slot (over (whole (first_events channel (slot_cues one channel)) field.one.parts.items places.first places.first_again)
      (whole t field.two.parts.items places.second places.second_again))) at)
      (second_at one two channel field.one field.two is.one_is is.two_is)
      ∙ ap (λ (ps : List Part). option_map (slot (over (whole (first_events channel (slot_cues one channel)) ps places.first places.first_again)
      (whole (second_events channel (slot_cues two channel)) field.two.parts.items places.second places.second_again))) at) is.one_is.parts
      ∙ ap (λ (ps : List Part). option_map (slot (over (whole (first_events channel (slot_cues one channel)) (first_units one channel) places.first places.first_again)
      (whole (second_events channel (slot_cues two channel)) ps places.second places.second_again))) at) is.two_is.parts)

-- frames are what their parts are
pub frame_same : (a b c d : Option Pair) (xs ys : List ℕ) → a ≡ b → c ≡ d → xs ≡ ys
    → ◌≡◌ {A = FrameBytes} (record { one = a; two = c; blocks = record { items = xs } }) (record { one = b; two = d; blocks = record { items = ys } })
frame_same a b c d xs ys one two blocks = rw (one, two, blocks) refl

-- the lanes of both lists in a field
pub record AreLanes (field : StartedField) (seconds : List Place) (first second : PlannedField) : Type 0 where
  pub first_is : IsLaneOf field.one.events.items field.one.parts.items (slots_at field.places.items) (resumes_at field.places.items) first
  pub second_is : IsLaneOf field.two.events.items field.two.parts.items (slots_at seconds) (resumes_at seconds) second
  pub first_at : first.slot ≡ 0
  pub second_at : second.slot ≡ 0

-- a plan is of these lanes, and of the first list
pub record IsPlanOfLanes (list : Listing) (one two : PlannedField) (plans : List PlannedService) (plan : Plan) : Type 0 where
  pub lanes : plan.lanes ≡ one ∷ two ∷ []
  pub services : plan.services.items ≡ plans
  pub rate : plan.rate ≡ list.rate
  pub frame : plan.frame ≡ 0
  pub left : plan.left ≡ list.frames

module _ (one two : Listing) (go_together : GoTogether one two) (placed : FirstPlaced) (are : IsFirstPlaced one two placed) (seconds : SecondPlaced)
    (beside_are : IsSecondPlaced one two placed seconds) where
  abbrev frames : ℕ → List ℕ
  frames service = (frames_of one go_together.formed go_together.ruled placed.services.items are.services service).0

  services_placed : (service : ℕ) → IsLanePlaced one (Service service) (placement [] [] frames (Service service))
  services_placed service = (frames_of one go_together.formed go_together.ruled placed.services.items are.services service).1

  abbrev places_placed : FieldNumber → Places
  places_placed One = places_of placed.one seconds.one.items
  places_placed Two = places_of placed.two seconds.two.items

  abbrev dual_placed : DualPlacement
  dual_placed = record { fields = places_placed; services = placement [] [] frames }

  fields_placed : (in_field : FieldNumber) → AreFieldsPlaces one two (authored_channel in_field) (places_placed in_field)
  fields_placed One = are_places one two go_together One placed.one are.fields.one_is seconds.one.items beside_are.one_is
  fields_placed Two = are_places one two go_together Two placed.two are.fields.two_is seconds.two.items beside_are.two_is

  module _ (plan : Plan) (lanes : SecondLanes) (first_one first_two : PlannedField)
      (one_are : AreLanes placed.one seconds.one.items first_one lanes.one) (two_are : AreLanes placed.two seconds.two.items first_two lanes.two)
      (plan_is : IsPlanOfLanes one first_one first_two placed.services.items plan) (rate : lanes.rate ≡ two.rate) (frame : lanes.frame ≡ 0) where
    same_rate : lanes.rate ≡ one.rate
    same_rate = rate ∙ go_together.alike.rate

    abbrev firsts : Columns
    firsts n = record {
      one = lane_pair (cadence_of plan.rate Cc1) first_one n;
      two = lane_pair (cadence_of plan.rate Cc3) first_two n;
      blocks = record { items = blocks_of plan.services.items n };
    }

    starts : (channel : Chan) (r : Rate) (planned : PlannedField) → planned.slot ≡ 0 → planned.slot ≡ slot_from (cadence_of r channel) 0
    starts channel r planned at = at ∙ sym (slot_from_first (cadence_of r channel))

    gives_firsts : GivesFrom firsts 0 plan
    gives_firsts = record {
      one = first_one;
      two = first_two;
      lanes = plan_is.lanes;
      frame_is = plan_is.frame;
      one_at = starts Cc1 plan.rate first_one one_are.first_at;
      two_at = starts Cc3 plan.rate first_two two_are.first_at;
      services_at = subst (All (λ (p : PlannedService). p.frame ≡ 0)) (sym plan_is.services)
          (planned_start one go_together.formed go_together.ruled placed.services.items are.services);
      column_is = λ n. refl;
    }

    -- the pair of a frame, by the rates of the plan and of the second lanes
    by_rates : (channel : Chan) (first second : PlannedField) (n : ℕ)
        → beside (lane_pair (cadence_of one.rate channel) first n) (lane_pair (cadence_of one.rate channel) second n)
        ≡ beside (lane_pair (cadence_of plan.rate channel) first n) (lane_pair (cadence_of lanes.rate channel) second n)
    by_rates channel first second n =
        ap (λ r. beside (lane_pair (cadence_of r channel) first n) (lane_pair (cadence_of one.rate channel) second n)) (sym plan_is.rate)
        ∙ ap (λ r. beside (lane_pair (cadence_of plan.rate channel) first n) (lane_pair (cadence_of r channel) second n)) (sym same_rate)

    lays_seconds : LaysBoth firsts (dual_columns one two dual_placed) 0 lanes
    lays_seconds = record {
      frame_is = frame;
      one_at = starts Cc1 lanes.rate lanes.one one_are.second_at;
      two_at = starts Cc3 lanes.rate lanes.two two_are.second_at;
      column_is = λ n.
          frame_same _ (beside (lane_pair (cadence_of plan.rate Cc1) first_one n) (lane_pair (cadence_of lanes.rate Cc1) lanes.one n)) _
          (beside (lane_pair (cadence_of plan.rate Cc3) first_two n) (lane_pair (cadence_of lanes.rate Cc3) lanes.two n)) _ (blocks_of plan.services.items n)
          (pair_joined one two go_together One placed.one are.fields.one_is seconds.one.items beside_are.one_is first_one lanes.one one_are.first_is
          one_are.second_is n ∙ by_rates Cc1 first_one lanes.one n)
          (pair_joined one two go_together Two placed.two are.fields.two_is seconds.two.items beside_are.two_is first_two lanes.two two_are.first_is
          two_are.second_is n ∙ by_rates Cc3 first_two lanes.two n)
          (sym (ap (λ ps. blocks_of ps n) plan_is.services
          ∙ planned_blocks one go_together.formed go_together.ruled (placement [] [] frames) n services_placed placed.services.items are.services));
    }

    pub all_planned : IsPlanned one two plan lanes
    all_planned = record {
      together = go_together;
      placed = dual_placed;
      placed_is = record { fields = fields_placed; services = services_placed };
      gives = record { firsts = firsts; gives = gives_firsts; makes = lays_seconds };
      left = plan_is.left;
    }
