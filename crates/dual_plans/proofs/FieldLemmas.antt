-- The fields of two lists that go together.
use Rattle.std.proofs.Common.{◌≡◌, ap, ◌∙◌}
use Rattle.std.specs.Prelude.{IfErr, IfOk, Result, Ok, Err, Vec}
use Rattle.std.specs.Global.{Global}
use Rattle.line21_codes.specs.declared.channels.Chan.{Chan}
use Rattle.cue_lists.specs.Cadences.{cadence_of, slot_from}
use Rattle.cue_lists.specs.Listing.{Listing}
use Rattle.lanes.specs.LaneEvents.{event_at}
use Rattle.frame_carrier.specs.SlotLists.{slots_in_list}
use Rattle.lanes.specs.declared.planning.PlanFault.{PlanFault}
use Rattle.dual_fields.specs.FieldSlots.{second_slots}
use Rattle.dual_fields.specs.Filled.{IsFault, IsFilled, slots_at}
use Rattle.dual_fields.specs.Spans.{in_spans}
use Rattle.dual_fields.specs.declared.place.Place.{Place}
use Rattle.dual_plans.specs.FieldPlaces.{second_units, slots_for_second}
use Rattle.dual_plans.specs.OtherList.{AreAlike}
use Rattle.dual_plans.specs.StartedFields.{IsStarted}
use Rattle.dual_plans.specs.declared.field.StartedField.{StartedField}
use Rattle.dual_plans.proofs.DualLemmas.{second_fault, second_filled}

-- both lists have as many slots
pub same_slots : (one two : Listing) (channel : Chan) → AreAlike one two → slots_in_list two channel ≡ slots_in_list one channel
same_slots one two channel alike =
    ap (λ r. slot_from (cadence_of r channel) two.frames) alike.rate ∙ ap (slot_from (cadence_of one.rate channel)) alike.frames

module _ (one two : Listing) (channel : Chan) (field : StartedField) (started : IsStarted one two channel field) where
  pub second_result : (result : Result (Vec Place Global) PlanFault)
      → IfOk result (λ places. IsFilled (second_slots (event_at field.one.events.items) (event_at field.two.events.items)
      (in_spans field.one.parts.items (slots_at field.places.items))) field.two.parts.items places.items)
      → IfOk result (λ places. IsFilled (slots_for_second one two channel (slots_at field.places.items)) (second_units two channel) places.items)
  second_result (Ok places) is = second_filled one two channel field.one field.two started.one_is started.two_is (slots_at field.places.items) places.items is
  second_result (Err fault) is = tt

  pub second_refused : (result : Result (Vec Place Global) PlanFault)
      → IfErr result (IsFault (second_slots (event_at field.one.events.items) (event_at field.two.events.items)
      (in_spans field.one.parts.items (slots_at field.places.items))) field.two.parts.items)
      → IfErr result (IsFault (slots_for_second one two channel (slots_at field.places.items)) (second_units two channel))
  second_refused (Ok places) is = tt
  second_refused (Err fault) is = second_fault one two channel field.one field.two started.one_is started.two_is (slots_at field.places.items) fault is
