-- Lists that go together, whose units are placed.
use Rattle.std.proofs.Common.{◌≡◌, ℕ, List, ap, ◌∙◌, subst}
use Rattle.std.proofs.Math.Path.{fun_ext}
use Rattle.line21_codes.specs.declared.channels.Chan.{Chan}
use Rattle.line21_codes.specs.Channels.{field_of_channel}
use Rattle.cue_lists.specs.Listing.{Listing}
use Rattle.line21_author.specs.CueEvents.{channel_events}
use Rattle.line21_author.specs.declared.event.Event.{Event}
use Rattle.dual_plans.proofs.ClashLemmas.{none_shared}
use Rattle.lanes.specs.LaneEvents.{event_at}
use Rattle.frame_carrier.specs.Planned.{authored_channel}
use Rattle.frame_carrier.specs.SlotLists.{slot_cues}
use Rattle.lanes.specs.Timeline.{Timeline}
use Rattle.lanes.specs.declared.planning.PlanFault.{PlanFault}
use Rattle.dual_fields.specs.FieldSlots.{first_slots, second_slots}
use Rattle.dual_fields.specs.Filled.{IsFault, IsFilled}
use Rattle.dual_fields.specs.Spans.{in_spans}
use Rattle.dual_fields.specs.declared.part.Part.{Part}
use Rattle.dual_fields.specs.declared.place.Place.{Place}
use Rattle.dual_plans.proofs.PlaceableLemmas.{second_begin}
use Rattle.dual_fields.specs.Seen.{first_events, second_events}
use Rattle.dual_fields.proofs.SeenLemmas.{holds_second}
use Rattle.dual_plans.specs.FieldPlaces.{PlacedFieldsAreDual, first_units, second_units, slots_for_first, slots_for_second}
use Rattle.dual_plans.specs.ListLanes.{IsFirstLane, IsSecondLane}
use Rattle.dual_plans.specs.declared.list_lane.ListLane.{ListLane}

pub placed_dual : PlacedFieldsAreDual
placed_dual one two together in_field places are = record {
  formed = together.formed;
  ruled = together.ruled;
  second_formed = together.second_formed;
  second_ruled = together.second_ruled;
  rate = together.alike.rate;
  frames = together.alike.frames;
  clash = λ n first.
      holds_second (field_of_channel (authored_channel in_field)) (event_at (channel_events (authored_channel in_field) (slot_cues two (authored_channel in_field)))) n
      ∙ none_shared one two together.apart in_field n first;
  stand = are.first_stand;
  beside = are.second_stand;
}

-- the lanes of both lists have the slots of the field
module _ (one two : Listing) (channel : Chan) (first second : ListLane) (first_is : IsFirstLane one channel first) (second_is : IsSecondLane two channel second) where
  pub first_at : event_at first.events.items ≡ first_events channel (slot_cues one channel)
  first_at = ap (λ (es : List Event). event_at es) first_is.events

  pub second_at : event_at second.events.items ≡ second_events channel (slot_cues two channel)
  second_at =
      ap (λ (es : List Event). event_at es) second_is.events
      ∙ fun_ext (λ n. second_begin (field_of_channel channel) (channel_events channel (slot_cues two channel)) n)

  pub first_filled : (places : List Place) → IsFilled (first_slots (event_at first.events.items) (event_at second.events.items)) first.parts.items places
      → IsFilled (slots_for_first one two channel) (first_units one channel) places
  first_filled places is =
      subst (λ (t : Timeline). IsFilled (first_slots (first_events channel (slot_cues one channel)) t) (first_units one channel) places) second_at
      (subst (λ (t : Timeline). IsFilled (first_slots t (event_at second.events.items)) (first_units one channel) places) first_at
      (subst (λ (ps : List Part). IsFilled (first_slots (event_at first.events.items) (event_at second.events.items)) ps places) first_is.parts is))

  pub first_fault : (fault : PlanFault) → IsFault (first_slots (event_at first.events.items) (event_at second.events.items)) first.parts.items fault
      → IsFault (slots_for_first one two channel) (first_units one channel) fault
  first_fault fault is =
      subst (λ (t : Timeline). IsFault (first_slots (first_events channel (slot_cues one channel)) t) (first_units one channel) fault) second_at
      (subst (λ (t : Timeline). IsFault (first_slots t (event_at second.events.items)) (first_units one channel) fault) first_at
      (subst (λ (ps : List Part). IsFault (first_slots (event_at first.events.items) (event_at second.events.items)) ps fault) first_is.parts is))

  pub second_filled : (fs : List ℕ) (places : List Place)
      → IsFilled (second_slots (event_at first.events.items) (event_at second.events.items) (in_spans first.parts.items fs)) second.parts.items places
      → IsFilled (slots_for_second one two channel fs) (second_units two channel) places
  second_filled fs places is =
      subst (λ (t : Timeline). IsFilled (second_slots (first_events channel (slot_cues one channel)) t (in_spans (first_units one channel) fs)) (second_units two channel) places) second_at
      (subst (λ (t : Timeline). IsFilled (second_slots t (event_at second.events.items) (in_spans (first_units one channel) fs)) (second_units two channel) places) first_at
      (subst (λ (ps : List Part). IsFilled (second_slots (event_at first.events.items) (event_at second.events.items) (in_spans ps fs)) (second_units two channel) places) first_is.parts
      (subst (λ (ps : List Part). IsFilled (second_slots (event_at first.events.items) (event_at second.events.items) (in_spans first.parts.items fs)) ps places) second_is.parts is)))

  pub second_fault : (fs : List ℕ) (fault : PlanFault)
      → IsFault (second_slots (event_at first.events.items) (event_at second.events.items) (in_spans first.parts.items fs)) second.parts.items fault
      → IsFault (slots_for_second one two channel fs) (second_units two channel) fault
  second_fault fs fault is =
      subst (λ (t : Timeline). IsFault (second_slots (first_events channel (slot_cues one channel)) t (in_spans (first_units one channel) fs)) (second_units two channel) fault) second_at
      (subst (λ (t : Timeline). IsFault (second_slots t (event_at second.events.items) (in_spans (first_units one channel) fs)) (second_units two channel) fault) first_at
      (subst (λ (ps : List Part). IsFault (second_slots (event_at first.events.items) (event_at second.events.items) (in_spans ps fs)) (second_units two channel) fault) first_is.parts
      (subst (λ (ps : List Part). IsFault (second_slots (event_at first.events.items) (event_at second.events.items) (in_spans first.parts.items fs)) ps fault) second_is.parts is)))
