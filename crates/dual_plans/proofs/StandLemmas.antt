-- The lanes of a field in which the units of both lists stand can be read slot by slot.
use Rattle.std.proofs.Common.{ℕ, ◌+◌, List, [], ◌∷◌, None, sym, ap, ◌∙◌, subst}
use Rattle.line21_codes.specs.declared.channels.Chan.{Chan}
use Rattle.line21_codes.specs.declared.channels.DataChannel.TheVariants as data_channels
use Rattle.line21_codes.specs.declared.channels.FieldNumber.{FieldNumber}
use Rattle.line21_codes.specs.Channels.{field_of_channel}
use Rattle.cue_lists.specs.Listing.{IsFormed, Listing}
use Rattle.cue_lists.specs.Rules.{IsRuled}
use Rattle.line21_author.specs.CueEvents.{channel_events}
use Rattle.line21_author.specs.EventOrder.{AreApart, AreFrom}
use Rattle.line21_author.specs.declared.event.Event.{Event}
use Rattle.lanes.specs.LaneEvents.{event_at}
use Rattle.frame_carrier.specs.SlotLists.{slot_cues, slots_in_list}
use Rattle.lanes.specs.Timeline.{Timeline}
use Rattle.frame_carrier.proofs.EventsApartLemmas.{events_apart}
use Rattle.frame_carrier.proofs.SlotLemmas.{slot_cues_formed, slot_sequence}
use Rattle.dual_fields.specs.FieldSlots.{first_slots, holds}
use Rattle.dual_fields.specs.Filled.{IsFilled, resumes_at, slots_at}
use Rattle.dual_fields.specs.ResumedLane.{Stand}
use Rattle.dual_fields.specs.Spans.{in_spans}
use Rattle.dual_fields.specs.declared.part.Part.{Part}
use Rattle.dual_fields.specs.declared.place.Place.{Place}
use Rattle.dual_plans.specs.SecondChannel.{second_events as coded_events}
use Rattle.dual_fields.specs.Lanes.{AreCues}
use Rattle.dual_fields.specs.Seen.{first_events, second_events}
use Rattle.dual_fields.specs.Together.{IsListed}
use Rattle.dual_fields.proofs.ListedLemmas.{channel_listed}
use Rattle.dual_fields.proofs.SeenLemmas.{free_unless, listed_second, second_not}
use Rattle.dual_fields.proofs.TogetherLemmas.{both_not}
use Rattle.dual_plans.specs.FieldPlaces.{first_units, second_units, slots_for_second}
use Rattle.dual_plans.specs.PlacedLanes.{CanStand}
use Rattle.dual_plans.specs.StartedFields.{IsStarted}
use Rattle.dual_plans.specs.declared.field.StartedField.{StartedField}
use Rattle.dual_plans.proofs.DualLemmas.{second_at}

-- events with other codes lie where theirs do
from_coded : (f : FieldNumber) (n : ℕ) (events : List Event) → AreFrom n events → AreFrom n (coded_events f events)
from_coded f n [] from = tt
from_coded f n (event ∷ events) from = (from.0, from_coded f n events from.1)

apart_coded : (f : FieldNumber) (events : List Event) → AreApart events → AreApart (coded_events f events)
apart_coded f [] apart = tt
apart_coded f (event ∷ events) apart = (from_coded f (event.slot + 2) events apart.0, apart_coded f events apart.1)

-- what a list gives in the field of a channel, and with its codes for data channel 2
pub lists_first : (list : Listing) (channel : Chan) → IsFormed list → IsRuled list → IsListed data_channels.One (first_events channel (slot_cues list channel)) (first_units list channel)
lists_first list channel formed ruled =
    channel_listed channel (slots_in_list list channel) (slot_cues list channel) (slot_cues_formed list formed channel) (slot_sequence list ruled channel)

pub lists_second : (list : Listing) (channel : Chan) → IsFormed list → IsRuled list
    → IsListed data_channels.Two (second_events channel (slot_cues list channel)) (second_units list channel)
lists_second list channel formed ruled =
    listed_second (field_of_channel channel) (first_events channel (slot_cues list channel)) (first_units list channel) (lists_first list channel formed ruled)

module _ (one two : Listing) (channel : Chan) (field : StartedField) (is : IsStarted one two channel field) where
  pub first_apart : IsRuled one → AreApart field.one.events.items
  first_apart ruled = subst AreApart (sym is.one_is.events) (events_apart one ruled channel)

  pub second_apart : IsRuled two → AreApart field.two.events.items
  second_apart ruled =
      subst AreApart (sym is.two_is.events)
      (apart_coded (field_of_channel channel) (channel_events channel (slot_cues two channel)) (events_apart two ruled channel))

  pub first_stands : IsFormed one → IsRuled one → CanStand field.one field.places.items
  first_stands formed ruled = record {
    slots = first_slots (event_at field.one.events.items) (event_at field.two.events.items);
    free = λ n free.
        free_unless field.one.events.items n
        (both_not (holds (event_at field.one.events.items) n) (holds (event_at field.two.events.items) n) free).0;
    cues = subst (AreCues None) (sym is.one_is.parts) (lists_first one channel formed ruled).cues;
    stand = is.filled.stand;
  }

  pub second_stands : IsFormed two → IsRuled two → (places : List Place)
      → IsFilled (slots_for_second one two channel (slots_at field.places.items)) (second_units two channel) places → CanStand field.two places
  second_stands formed ruled places filled = record {
    slots = slots_for_second one two channel (slots_at field.places.items);
    free = λ n free.
        free_unless field.two.events.items n
        (ap (λ (t : Timeline). holds t n) (second_at one two channel field.one field.two is.one_is is.two_is)
        ∙ second_not (holds (first_events channel (slot_cues one channel)) n) (holds (second_events channel (slot_cues two channel)) n)
        (in_spans (first_units one channel) (slots_at field.places.items) n) free);
    cues = subst (AreCues None) (sym is.two_is.parts) (lists_second two channel formed ruled).cues;
    stand = subst (λ (ps : List Part). Stand (slots_for_second one two channel (slots_at field.places.items)) 0 ps (slots_at places) (resumes_at places))
        (sym is.two_is.parts) filled.stand;
  }
