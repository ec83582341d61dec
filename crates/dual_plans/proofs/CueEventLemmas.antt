-- The events of a channel with the numbers of their cues.
use Rattle.std.proofs.Common.{◌≡◌, ℕ, suc, ◌+◌, Bool, true, false, List, [], ◌∷◌, ◌++◌, refl, sym, ap, subst, arith}
use Rattle.std.specs.Prelude.{if◌then◌else◌, IfOk, Result, Ok, Err, Vec}
use Rattle.std.specs.Global.{Global}
use Rattle.line21_codes.specs.declared.channels.Chan.{Chan}
use Rattle.line21_codes.specs.Channels.{field_of_channel}
use Rattle.cue_lists.specs.declared.cue.Cue.{Cue}
use Rattle.cue_lists.specs.Listing.{Listing}
use Rattle.cue_lists.specs.Rules.{IsRuled}
use Rattle.line21_author.specs.Channels.{cues_on, is_on}
use Rattle.line21_author.specs.CueEvents.{channel_events, cue_events as events_of}
use Rattle.line21_author.specs.EventOrder.{AreApart, AreFrom}
use Rattle.line21_author.specs.declared.event.Event.{Event}
use Rattle.lanes.specs.LaneRoom.{AreInCueOrder, AreOfCuesFrom}
use Rattle.frame_carrier.specs.SlotLists.{slot_cues}
use Rattle.frame_carrier.proofs.EventsApartLemmas.{events_apart}
use Rattle.dual_plans.specs.Clashes.{list_events}
use Rattle.dual_plans.specs.CueEvents.{AreOrdered, BeginFrom, EventsAreThoseOfTheChannel, LieApart, event_cue, event_slots, events_from, numbered, own_events, slots_of}
use Rattle.dual_plans.specs.declared.cue_event.CueEvent.{CueEvent}

-- events of a cue before others begin in their slots
slots_before : (number : ℕ) (events more : List Event) (rest : List CueEvent) → slots_of rest ≡ event_slots more
    → slots_of (numbered number events ++ rest) ≡ event_slots (events ++ more)
slots_before number [] more rest is = is
slots_before number (event ∷ events) more rest is = ap (λ (slots : List ℕ). event.slot ∷ slots) (slots_before number events more rest is)

slots_from : (channel : Chan) (number : ℕ) (cues : List Cue) → slots_of (events_from channel number cues) ≡ event_slots (events_of (field_of_channel channel) (cues_on channel cues))
slots_from channel number [] = refl
slots_from channel number (cue ∷ later) = by_test (is_on channel cue.kind) (slots_from channel (suc number) later)
  where
    by_test : (on : Bool) → slots_of (events_from channel (suc number) later) ≡ event_slots (events_of (field_of_channel channel) (cues_on channel later))
        → slots_of ((if on then numbered number (own_events channel cue later) else []) ++ events_from channel (suc number) later)
        ≡ event_slots (events_of (field_of_channel channel) (if on then cue ∷ cues_on channel later else cues_on channel later))
    by_test true rest =
        slots_before number (own_events channel cue later) (events_of (field_of_channel channel) (cues_on channel later)) (events_from channel (suc number) later) rest
    by_test false rest = rest

pub channel_slots : EventsAreThoseOfTheChannel
channel_slots channel cues = slots_from channel 1 cues

-- events that are apart begin in slots that are
begin_from : (n : ℕ) (events : List Event) → AreFrom n events → BeginFrom n (event_slots events)
begin_from n [] from = tt
begin_from n (event ∷ events) from = (from.0, begin_from n events from.1)

lie_apart : (events : List Event) → AreApart events → LieApart (event_slots events)
lie_apart [] apart = tt
lie_apart (event ∷ events) apart = (begin_from (event.slot + 2) events apart.0, lie_apart events apart.1)

-- the events stand in the order of their cues, none of which is before the cue of this number
record StartAt (number : ℕ) (events : List CueEvent) : Type 0 where
  from : AreOfCuesFrom event_cue number events
  order : AreInCueOrder event_cue events

start_before : (number : ℕ) (events : List Event) (rest : List CueEvent) → StartAt number rest → StartAt number (numbered number events ++ rest)
start_before number [] rest start = start
start_before number (event ∷ events) rest start =
    let behind = start_before number events rest start in
    record { from = (omega arith, behind.from); order = (behind.from, behind.order) }

of_later_cues : (number : ℕ) (events : List CueEvent) → AreOfCuesFrom event_cue (suc number) events → AreOfCuesFrom event_cue number events
of_later_cues number [] from = tt
of_later_cues number (event ∷ events) from = (omega (arith, from.0), of_later_cues number events from.1)

start_from : (channel : Chan) (number : ℕ) (cues : List Cue) → StartAt number (events_from channel number cues)
start_from channel number [] = record { from = tt; order = tt }
start_from channel number (cue ∷ later) = by_test (is_on channel cue.kind) (start_later (start_from channel (suc number) later))
  where
    start_later : StartAt (suc number) (events_from channel (suc number) later) → StartAt number (events_from channel (suc number) later)
    start_later behind = record { from = of_later_cues number (events_from channel (suc number) later) behind.from; order = behind.order }

    by_test : (on : Bool) → StartAt number (events_from channel (suc number) later)
        → StartAt number ((if on then numbered number (own_events channel cue later) else []) ++ events_from channel (suc number) later)
    by_test true rest = start_before number (own_events channel cue later) (events_from channel (suc number) later) rest
    by_test false rest = rest

-- the events of a list that keeps the rules are in order
pub list_ordered : (list : Listing) → IsRuled list → (channel : Chan) → AreOrdered (list_events list channel)
list_ordered list ruled channel = record {
  apart = subst LieApart (sym (channel_slots channel (slot_cues list channel)))
      (lie_apart (channel_events channel (slot_cues list channel)) (events_apart list ruled channel));
  order = (start_from channel 1 (slot_cues list channel)).order;
}

-- so are those that are made of it
pub made_ordered : {E : Type 0} (list : Listing) (channel : Chan) (made : Result (Vec CueEvent Global) E) → IsRuled list
    → IfOk made (λ events. events.items ≡ list_events list channel) → IfOk made (λ events. AreOrdered events.items)
made_ordered list channel (Ok events) ruled is = subst AreOrdered (sym is) (list_ordered list ruled channel)
made_ordered list channel (Err error) ruled is = tt
