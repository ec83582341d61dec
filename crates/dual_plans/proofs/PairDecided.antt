-- Each pair of lists that go together is judged, and once.
use Rattle.std.proofs.Common.{◌≡◌, ◌⊎◌, inl, inr, ℕ, ◌<◌, ◌∙◌, ◌&&◌, ◌||◌, Bool, true, false, not, List, [], Option, All, min, refl, ap, subst, arith}
use Rattle.std.specs.List.{flat_map}
use Rattle.std.proofs.Math.Path.{fun_ext}
use Rattle.std.proofs.lemmas.Bool.{cases_lt}
use Rattle.line21_codes.specs.declared.channels.Chan.{Chan}
use Rattle.line21_codes.specs.declared.channels.Chan.TheVariants.{Cc1, Cc2, Cc3, Cc4}
use Rattle.line21_codes.specs.declared.channels.FieldNumber.{FieldNumber}
use Rattle.line21_codes.specs.declared.channels.FieldNumber.TheVariants.{One, Two}
use Rattle.cue_lists.specs.Listing.{Listing}
use Rattle.cue_lists.specs.declared.lane.Lane.{Lane}
use Rattle.cue_lists.specs.declared.lane.Lane.TheVariants.{Channel, Service}
use Rattle.lanes.specs.LaneRoom.{AreInCueOrder, HasRoom, IsFirstCrowded}
use Rattle.lanes.specs.Placing.{IsEarliest}
use Rattle.lanes.specs.declared.planning.PlanFault.TheVariants.{NoRoom}
use Rattle.lanes.proofs.LaneRoomLemmas.{room_all}
use Rattle.lanes.proofs.PlacingLemmas.{earliest_same}
use Rattle.frame_carrier.specs.Blocks.{service_block}
use Rattle.frame_carrier.specs.Planned.{IsFirstWithoutRoom, IsLanePlaced, IsListPlaced, LaneHasRoom, Placement, authored_channel, chunks_in, frame_blocks, service_bytes, service_lane_of, services}
use Rattle.frame_carrier.specs.SlotLists.{slot_cues}
use Rattle.frame_carrier.proofs.LanesLemmas.{off_room, service_room}
use Rattle.frame_carrier.proofs.RoomDecided.{list_decided}
use Rattle.dual_fields.specs.FieldSlots.{holds}
use Rattle.dual_fields.specs.Filled.{IsFilled, resumes_at, slots_at}
use Rattle.dual_fields.specs.Parts.{IsBegun, part_cue}
use Rattle.dual_fields.specs.ResumedLane.{Stand, resumed_lane}
use Rattle.dual_fields.specs.Slots.{AreSound, Slots}
use Rattle.dual_fields.specs.Spans.{in_spans}
use Rattle.dual_fields.specs.declared.part.Part.{Part}
use Rattle.dual_fields.specs.declared.place.Place.{Place}
use Rattle.dual_plans.specs.Placeable.{ArePlaceable}
use Rattle.dual_plans.proofs.PlaceableLemmas.{channels_ready}
use Rattle.dual_fields.specs.Dual.{Places}
use Rattle.dual_fields.specs.Seen.{first_events, second_events}
use Rattle.dual_plans.specs.DualAnswer.{FieldHasRoom, HasRoomBeside, IsFirstWithout, IsFirstWithoutBeside}
use Rattle.dual_plans.specs.DualPlacement.{DualPlacement, IsDualPlaced, both_pair, dual_columns}
use Rattle.dual_plans.specs.FieldFaults.{IsFirstOfFields}
use Rattle.dual_plans.specs.FieldPlaces.{AreFieldsPlaces, GoTogether, first_units, second_units, slots_for_first, slots_for_second}
use Rattle.dual_plans.specs.Verdict.{EachPairIsJudged, IsVerdict, Lacking, LackingBeside, NoPairIsJudgedTwice, Placed, Verdict}
use Rattle.dual_plans.proofs.AloneLemmas.{room_alone}
use Rattle.dual_plans.proofs.FirstPlacedLemmas.{lane_fault}
use Rattle.dual_plans.proofs.JoinedLemmas.{frame_same}
use Rattle.dual_plans.proofs.LaneDecided.{lane_decided, resumes_same}
use Rattle.dual_plans.proofs.RoomLemmas.{fault_both, fault_one, fault_two}

-- a lane of each field
module _ (slots : FieldNumber → Slots) (units : FieldNumber → List Part) (order : (in_field : FieldNumber) → AreInCueOrder part_cue (units in_field)) where
  abbrev Has : FieldNumber → ℕ → Type 0
  Has in_field cue = HasRoom (resumed_lane (slots in_field)) part_cue (units in_field) cue

  abbrev Filled : FieldNumber → Type 0
  Filled in_field = (places : List Place) × IsFilled (slots in_field) (units in_field) places

  abbrev Crowded : FieldNumber → Type 0
  Crowded in_field = (cue : ℕ) × IsFirstCrowded (resumed_lane (slots in_field)) part_cue (units in_field) cue

  roomy : (in_field : FieldNumber) → Filled in_field → (cue : ℕ) → Has in_field cue
  roomy in_field filled cue = room_all part_cue (resumed_lane (slots in_field)) (units in_field) (order in_field) (slots_at filled.0) filled.1.earliest.placed cue

  -- both are filled, or a cue is the first without room in one of them
  lanes_decided : AreSound (slots One) → AreSound (slots Two) → All IsBegun (units One) → All IsBegun (units Two)
      → ((in_field : FieldNumber) → Filled in_field) ⊎ ((cue : ℕ) × IsFirstOfFields Has cue)
  lanes_decided sound_one sound_two begun_one begun_two =
      at (lane_decided (slots One) sound_one (units One) begun_one (order One)) (lane_decided (slots Two) sound_two (units Two) begun_two (order Two))
    where
      both : Filled One → Filled Two → (in_field : FieldNumber) → Filled in_field
      both one two One = one
      both one two Two = two

      at : Filled One ⊎ Crowded One → Filled Two ⊎ Crowded Two → ((in_field : FieldNumber) → Filled in_field) ⊎ ((cue : ℕ) × IsFirstOfFields Has cue)
      at (inl one) (inl two) = inl (both one two)
      at (inr one) (inl two) = inr (one.0, fault_one Has (NoRoom one.0) (lane_fault (slots One) (units One) (NoRoom one.0) one.1) (roomy Two two))
      at (inl one) (inr two) = inr (two.0, fault_two Has (NoRoom two.0) (lane_fault (slots Two) (units Two) (NoRoom two.0) two.1) (roomy One one))
      at (inr one) (inr two) =
          inr (
            min one.0 two.0,
            fault_both Has (NoRoom one.0) (NoRoom two.0) (lane_fault (slots One) (units One) (NoRoom one.0) one.1)
                (lane_fault (slots Two) (units Two) (NoRoom two.0) two.1),
          )

-- no foreign slot is free
sound_first : (one two : Listing) (channel : Chan) → AreSound (slots_for_first one two channel)
sound_first one two channel n foreign = by_test (holds (first_events channel (slot_cues one channel)) n) (holds (second_events channel (slot_cues two channel)) n) foreign
  where
    by_test : (a b : Bool) → b ≡ true → (not a && not b) ≡ false
    by_test true true is = refl
    by_test true false is = refl
    by_test false true is = refl
    by_test false false is = cc

sound_second : (one two : Listing) (channel : Chan) (fs : List ℕ) → AreSound (slots_for_second one two channel fs)
sound_second one two channel fs n foreign =
    by_test (holds (first_events channel (slot_cues one channel)) n) (holds (second_events channel (slot_cues two channel)) n)
    (in_spans (first_units one channel) fs n) foreign
  where
    by_test : (a b s : Bool) → (a || s) ≡ true → (not a && (not b && not s)) ≡ false
    by_test true b s is = refl
    by_test false true s is = refl
    by_test false false true is = refl
    by_test false false false is = cc

module _ (one two : Listing) (together : GoTogether one two) where
  first_placeable : (channel : Chan) → ArePlaceable (first_units one channel)
  first_placeable channel = (channels_ready one channel together.formed together.ruled).placeable

  second_placeable : (channel : Chan) → ArePlaceable (second_units two channel)
  second_placeable channel = (channels_ready two channel together.second_formed together.second_ruled).second

  abbrev first_lanes : FieldNumber → Slots
  first_lanes in_field = slots_for_first one two (authored_channel in_field)

  abbrev units_first : FieldNumber → List Part
  units_first in_field = first_units one (authored_channel in_field)

  first_order : (in_field : FieldNumber) → AreInCueOrder part_cue (units_first in_field)
  first_order in_field = (first_placeable (authored_channel in_field)).order

  abbrev FirstFilled : Type 0
  FirstFilled = (in_field : FieldNumber) → Filled first_lanes units_first first_order in_field

  abbrev FirstCrowded : Type 0
  FirstCrowded = (cue : ℕ) × IsFirstOfFields (FieldHasRoom one two) cue

  fields_decided : FirstFilled ⊎ FirstCrowded
  fields_decided =
      lanes_decided first_lanes units_first first_order (sound_first one two Cc1) (sound_first one two Cc3) (first_placeable Cc1).begun (first_placeable Cc3).begun

  -- a lane without room is a service's where the fields have room
  lacks_in_service : (cue : ℕ) → ((in_field : FieldNumber) → FieldHasRoom one two in_field cue) → (on : Lane) → (LaneHasRoom one on cue → ⊥)
      → (service : ℕ) × (LaneHasRoom one (Service service) cue → ⊥)
  lacks_in_service cue room (Channel Cc1) lacks = absurd (lacks (room_alone one two Cc1 cue (room One)))
  lacks_in_service cue room (Channel Cc2) lacks = absurd (lacks (off_room one together.formed Cc2 (λ a. a) cue))
  lacks_in_service cue room (Channel Cc3) lacks = absurd (lacks (room_alone one two Cc3 cue (room Two)))
  lacks_in_service cue room (Channel Cc4) lacks = absurd (lacks (off_room one together.formed Cc4 (λ a. a) cue))
  lacks_in_service cue room (Service service) lacks = (service, lacks)

  abbrev ServicesPlaced : Type 0
  ServicesPlaced = (service : ℕ) → (frames : List ℕ) × IsLanePlaced one (Service service) frames

  -- the first list has its placements, or a cue of it is the first without one
  first_decided : (FirstFilled × ServicesPlaced) ⊎ ((cue : ℕ) × IsFirstWithout one two cue)
  first_decided = at (list_decided one together.formed together.ruled) fields_decided
    where
      at : ((placed : Placement) × IsListPlaced one placed) ⊎ ((cue : ℕ) × IsFirstWithoutRoom one cue) → FirstFilled ⊎ FirstCrowded
          → (FirstFilled × ServicesPlaced) ⊎ ((cue : ℕ) × IsFirstWithout one two cue)
      at (inl placed) (inl filled) = inl (filled, λ service. (placed.0 (Service service), placed.1 (Service service)))
      at (inl placed) (inr crowded) =
          inr (
            crowded.0,
            record {
              none = inl crowded.1.none;
              fields = crowded.1.first;
              services = λ earlier below service. service_room service one (placed.0 (Service service)) (placed.1 (Service service)).placed earlier;
            },
          )
      at (inr without) (inl filled) =
          inr (
            without.0,
            record {
              none = inr (lacks_in_service without.0 (λ in_field. roomy first_lanes units_first first_order in_field (filled in_field) without.0) without.1.none.0 without.1.none.1);
              fields = λ earlier below in_field. roomy first_lanes units_first first_order in_field (filled in_field) earlier;
              services = λ earlier below service. without.1.first earlier below (Service service);
            },
          )
      at (inr without) (inr crowded) =
          elim (cases_lt without.0 crowded.0) [
            | inl less ↦ inr (
              without.0,
              record {
                none = inr (lacks_in_service without.0 (crowded.1.first without.0 less) without.1.none.0 without.1.none.1);
                fields = λ earlier below. crowded.1.first earlier (omega arith);
                services = λ earlier below service. without.1.first earlier below (Service service);
              },
            )
            | inr most ↦ inr (
              crowded.0,
              record {
                none = inl crowded.1.none;
                fields = crowded.1.first;
                services = λ earlier below service. without.1.first earlier (omega arith) (Service service);
              },
            )
          ]

  -- where it has, so has the second beside it, or not
  module _ (filled : FirstFilled) (placed_services : ServicesPlaced) where
    abbrev second_lanes : FieldNumber → Slots
    second_lanes in_field = slots_for_second one two (authored_channel in_field) (slots_at (filled in_field).0)

    abbrev units_second : FieldNumber → List Part
    units_second in_field = second_units two (authored_channel in_field)

    second_order : (in_field : FieldNumber) → AreInCueOrder part_cue (units_second in_field)
    second_order in_field = (second_placeable (authored_channel in_field)).order

    abbrev SecondFilled : Type 0
    SecondFilled = (in_field : FieldNumber) → Filled second_lanes units_second second_order in_field

    abbrev both_places : SecondFilled → FieldNumber → Places
    both_places seconds in_field = record {
      first = slots_at (filled in_field).0;
      first_again = resumes_at (filled in_field).0;
      second = slots_at (seconds in_field).0;
      second_again = resumes_at (seconds in_field).0;
    }

    abbrev in_services : Lane → List ℕ
    in_services (Channel channel) = []
    in_services (Service service) = (placed_services service).0

    abbrev both_placed : SecondFilled → DualPlacement
    both_placed seconds = record { fields = both_places seconds; services = in_services }

    fields_are : (seconds : SecondFilled) (in_field : FieldNumber) → AreFieldsPlaces one two (authored_channel in_field) (both_places seconds in_field)
    fields_are seconds in_field = record {
      first = (filled in_field).1.earliest;
      first_stand = (filled in_field).1.stand;
      second = (seconds in_field).1.earliest;
      second_stand = (seconds in_field).1.stand;
    }

    second_decided : (verdict : Verdict) × IsVerdict one two verdict
    second_decided =
        at (lanes_decided second_lanes units_second second_order (sound_second one two Cc1 (slots_at (filled One).0)) (sound_second one two Cc3 (slots_at (filled Two).0))
        (second_placeable Cc1).begun (second_placeable Cc3).begun)
      where
        at : SecondFilled ⊎ ((cue : ℕ) × IsFirstOfFields (Has second_lanes units_second second_order) cue)
            → (verdict : Verdict) × IsVerdict one two verdict
        at (inl seconds) = (
          Placed (both_placed seconds),
          record { fields = fields_are seconds; services = λ service. (placed_services service).1 },
        )
        at (inr crowded) = (
          LackingBeside crowded.0,
          record {
            placed = λ in_field. slots_at (filled in_field).0;
            fields = λ in_field. (filled in_field).1.earliest;
            services = placed_services;
            none = crowded.1.none;
            first = crowded.1.first;
          },
        )

  judged : (verdict : Verdict) × IsVerdict one two verdict
  judged =
      elim first_decided [
        | inl both ↦ second_decided both.0 both.1
        | inr without ↦ (Lacking without.0, without.1)
      ]

pub each_judged : EachPairIsJudged
each_judged one two together = judged one two together

-- places are what their parts are
abbrev places_with : List ℕ → List (Option ℕ) → List ℕ → List (Option ℕ) → Places
places_with fs rs gs qs = record { first = fs; first_again = rs; second = gs; second_again = qs }

same_places : (a b : Places) → a.first ≡ b.first → a.first_again ≡ b.first_again → a.second ≡ b.second → a.second_again ≡ b.second_again → a ≡ b
same_places a b firsts again seconds again_beside =
    ap (λ fs. places_with fs a.first_again a.second a.second_again) firsts ∙ ap (λ rs. places_with b.first rs a.second a.second_again) again
    ∙ ap (λ gs. places_with b.first b.first_again gs a.second_again) seconds ∙ ap (places_with b.first b.first_again b.second) again_beside

-- what holds of two verdicts on one pair
module _ (one two : Listing) (go : GoTogether one two) where
  abbrev Earliest : FieldNumber → List ℕ → Type 0
  Earliest in_field fs = IsEarliest (resumed_lane (slots_for_first one two (authored_channel in_field))) (first_units one (authored_channel in_field)) fs

  abbrev EarliestBeside : FieldNumber → List ℕ → List ℕ → Type 0
  EarliestBeside in_field fs gs =
      IsEarliest (resumed_lane (slots_for_second one two (authored_channel in_field) fs)) (second_units two (authored_channel in_field)) gs

  first_same : (in_field : FieldNumber) (fs gs : List ℕ) → Earliest in_field fs → Earliest in_field gs → fs ≡ gs
  first_same in_field fs gs a b =
      earliest_same (resumed_lane (slots_for_first one two (authored_channel in_field))) (first_units one (authored_channel in_field)) fs gs a b

  -- a field that is placed has room
  room_first : (in_field : FieldNumber) (fs : List ℕ) → Earliest in_field fs → (cue : ℕ) → FieldHasRoom one two in_field cue
  room_first in_field fs is cue =
      room_all part_cue (resumed_lane (slots_for_first one two (authored_channel in_field))) (first_units one (authored_channel in_field))
      (first_placeable one two go (authored_channel in_field)).order fs is.placed cue

  room_second : (in_field : FieldNumber) (fs gs : List ℕ) → EarliestBeside in_field fs gs → (cue : ℕ) → HasRoomBeside one two in_field fs cue
  room_second in_field fs gs is cue =
      room_all part_cue (resumed_lane (slots_for_second one two (authored_channel in_field) fs)) (second_units two (authored_channel in_field))
      (second_placeable one two go (authored_channel in_field)).order gs is.placed cue

  -- a cue has room, or lacks it
  lacks_no_room : (cue : ℕ) → ((in_field : FieldNumber) → FieldHasRoom one two in_field cue) → ((service : ℕ) → LaneHasRoom one (Service service) cue)
      → IsFirstWithout one two cue → ⊥
  lacks_no_room cue fields in_services is = at is.none
    where
      at : ((in_field : FieldNumber) × (FieldHasRoom one two in_field cue → ⊥)) ⊎ ((service : ℕ) × (LaneHasRoom one (Service service) cue → ⊥)) → ⊥
      at (inl lacks) = lacks.1 (fields lacks.0)
      at (inr lacks) = lacks.1 (in_services lacks.0)

  room_services : (service : ℕ) (frames : List ℕ) → IsLanePlaced one (Service service) frames → (cue : ℕ) → LaneHasRoom one (Service service) cue
  room_services service frames is cue = service_room service one frames is.placed cue

  -- where the first list is placed it lacks no room
  never_lacking : (fs : FieldNumber → List ℕ) → ((in_field : FieldNumber) → Earliest in_field (fs in_field))
      → ((service : ℕ) → (frames : List ℕ) × IsLanePlaced one (Service service) frames) → (cue : ℕ) → IsFirstWithout one two cue → ⊥
  never_lacking fs fields placed cue is =
      lacks_no_room cue (λ in_field. room_first in_field (fs in_field) (fields in_field) cue)
      (λ service. room_services service (placed service).0 (placed service).1 cue) is

  lacking_same : (a b : ℕ) → IsFirstWithout one two a → IsFirstWithout one two b → a ≡ b
  lacking_same a b first second =
      elim (cases_lt a b) [
        | inl less ↦ absurd (lacks_no_room a (second.fields a less) (second.services a less) first)
        | inr most ↦ elim (cases_lt b a) [
          | inl less ↦ absurd (lacks_no_room b (first.fields b less) (first.services b less) second)
          | inr least ↦ omega arith
        ]
      ]

  -- of the second list beside the first
  beside_first : (a b : ℕ) (first : IsFirstWithoutBeside one two a) (second : IsFirstWithoutBeside one two b) → a < b → ⊥
  beside_first a b first second less =
      let in_field = first.none.0 in
      let same = first_same in_field (first.placed in_field) (second.placed in_field) (first.fields in_field) (second.fields in_field) in
      subst (λ fs. HasRoomBeside one two in_field fs a → ⊥) same first.none.1 (second.first a less in_field)

  beside_same : (a b : ℕ) → IsFirstWithoutBeside one two a → IsFirstWithoutBeside one two b → a ≡ b
  beside_same a b first second =
      elim (cases_lt a b) [
        | inl less ↦ absurd (beside_first a b first second less)
        | inr most ↦ elim (cases_lt b a) [
          | inl less ↦ absurd (beside_first b a second first less)
          | inr least ↦ omega arith
        ]
      ]

  placed_lacks_none : (placed : DualPlacement) → IsDualPlaced one two placed → (cue : ℕ) → IsFirstWithout one two cue → ⊥
  placed_lacks_none placed is cue without =
      never_lacking (λ in_field. (placed.fields in_field).first) (λ in_field. (is.fields in_field).first)
      (λ service. (placed.services (Service service), is.services service)) cue without

  placed_lacks_none_beside : (placed : DualPlacement) → IsDualPlaced one two placed → (cue : ℕ) → IsFirstWithoutBeside one two cue → ⊥
  placed_lacks_none_beside placed is cue without =
      let in_field = without.none.0 in
      let places = placed.fields in_field in
      let same = first_same in_field (without.placed in_field) places.first (without.fields in_field) (is.fields in_field).first in
      subst (λ fs. HasRoomBeside one two in_field fs cue → ⊥) same without.none.1
      (room_second in_field places.first places.second (is.fields in_field).second cue)

  lacking_not_beside : (a b : ℕ) → IsFirstWithout one two a → IsFirstWithoutBeside one two b → ⊥
  lacking_not_beside a b lacks is = never_lacking is.placed is.fields is.services a lacks

  -- the units of a field stand in one way
  places_same : (in_field : FieldNumber) (a b : Places) → AreFieldsPlaces one two (authored_channel in_field) a → AreFieldsPlaces one two (authored_channel in_field) b
      → a ≡ b
  places_same in_field a b are others =
      let channel = authored_channel in_field in
      let firsts : a.first ≡ b.first = first_same in_field a.first b.first are.first others.first in
      let seconds : a.second ≡ b.second =
      earliest_same (resumed_lane (slots_for_second one two channel b.first)) (second_units two channel) a.second b.second
      (subst (λ fs. EarliestBeside in_field fs a.second) firsts are.second) others.second in
      let again : a.first_again ≡ b.first_again =
      resumes_same (slots_for_first one two channel) 0 (first_units one channel) b.first a.first_again b.first_again
      (subst (λ fs. Stand (slots_for_first one two channel) 0 (first_units one channel) fs a.first_again) firsts are.first_stand) others.first_stand in
      let again_beside : a.second_again ≡ b.second_again =
      resumes_same (slots_for_second one two channel b.first) 0 (second_units two channel) b.second a.second_again b.second_again
      (subst (λ gs. Stand (slots_for_second one two channel b.first) 0 (second_units two channel) gs a.second_again) seconds
      (subst (λ fs. Stand (slots_for_second one two channel fs) 0 (second_units two channel) a.second a.second_again) firsts are.second_stand)) others.second_stand in
      same_places a b firsts again seconds again_beside

  services_same : (a b : DualPlacement) → IsDualPlaced one two a → IsDualPlaced one two b
      → ◌≡◌ {A = ℕ → List ℕ} (λ service. a.services (Service service)) (λ service. b.services (Service service))
  services_same a b is other =
      fun_ext (λ service. earliest_same (service_lane_of one service) (chunks_in one service) (a.services (Service service)) (b.services (Service service))
      (is.services service) (other.services service))

  columns_same : (a b : DualPlacement) → IsDualPlaced one two a → IsDualPlaced one two b → dual_columns one two a ≡ dual_columns one two b
  columns_same a b is other =
      fun_ext (λ frame. frame_same (both_pair one two Cc1 (a.fields One) frame) (both_pair one two Cc1 (b.fields One) frame)
      (both_pair one two Cc3 (a.fields Two) frame) (both_pair one two Cc3 (b.fields Two) frame)
      (frame_blocks one a.services frame) (frame_blocks one b.services frame)
      (ap (λ (p : Places). both_pair one two Cc1 p frame) (places_same One (a.fields One) (b.fields One) (is.fields One) (other.fields One)))
      (ap (λ (p : Places). both_pair one two Cc3 p frame) (places_same Two (a.fields Two) (b.fields Two) (is.fields Two) (other.fields Two)))
      (ap (λ (frames : ℕ → List ℕ). flat_map (λ service. service_block service (service_bytes one service (frames service) frame)) services)
      (services_same a b is other)))

pub judged_once : NoPairIsJudgedTwice
judged_once one two go (Placed a) (Placed b) is other = columns_same one two go a b is other
judged_once one two go (Placed a) (Lacking b) is other = placed_lacks_none one two go a is b other
judged_once one two go (Placed a) (LackingBeside b) is other = placed_lacks_none_beside one two go a is b other
judged_once one two go (Lacking a) (Placed b) is other = placed_lacks_none one two go b other a is
judged_once one two go (Lacking a) (Lacking b) is other = lacking_same one two go a b is other
judged_once one two go (Lacking a) (LackingBeside b) is other = lacking_not_beside one two go a b is other
judged_once one two go (LackingBeside a) (Placed b) is other = placed_lacks_none_beside one two go b other a is
judged_once one two go (LackingBeside a) (Lacking b) is other = lacking_not_beside one two go b a other is
judged_once one two go (LackingBeside a) (LackingBeside b) is other = beside_same one two go a b is other
