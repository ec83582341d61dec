-- Believed in part: the program's answer stands on some of these definitions.
-- The events of a channel, each with the number of its cue. The times of the cues are in slots of the channel's field.
use Rattle.std.specs.Prelude.{◌≡◌, ⊤, ℕ, suc, ◌+◌, ◌≤◌, if◌then◌else◌, List, [], ◌∷◌, ◌++◌, map}
use Rattle.line21_codes.specs.declared.channels.Chan.{Chan}
use Rattle.line21_codes.specs.Channels.{field_of_channel}
use Rattle.cue_lists.specs.declared.cue.Cue.{Cue}
use Rattle.line21_author.specs.Channels.{cues_on, is_on}
use Rattle.line21_author.specs.CueEvents.{channel_events, hide_events, show_events}
use Rattle.line21_author.specs.declared.event.Event.{Event}
use Rattle.lanes.specs.LaneRoom.{AreInCueOrder}
use Rattle.dual_plans.specs.declared.cue_event.CueEvent.{CueEvent}

-- the events of a cue that later ones of its list follow: what shows it, and what hides it where no next cue takes its place then
abbrev pub own_events : Chan → Cue → List Cue → List Event
own_events channel cue later =
    show_events (field_of_channel channel) cue ++ hide_events (field_of_channel channel) cue.hide (cues_on channel later)

-- the events of the cues on a channel, each with the number of its cue, where the first cue has this number
abbrev pub events_from : Chan → ℕ → List Cue → List CueEvent
events_from channel number [] = []
events_from channel number (cue ∷ later) =
    (if is_on channel cue.kind then map (λ event. record { slot = event.slot; cue = number }) (own_events channel cue later) else []) ++ events_from channel (suc number) later

-- events as the events of the cue of this number
abbrev pub numbered : ℕ → List Event → List CueEvent
numbered number events = map (λ event. record { slot = event.slot; cue = number }) events

-- the slots in which events begin
abbrev pub slots_of : List CueEvent → List ℕ
slots_of events = map (λ event. event.slot) events

abbrev pub event_slots : List Event → List ℕ
event_slots events = map (λ event. event.slot) events

-- they are the channel's events
abbrev pub EventsAreThoseOfTheChannel : Type 0
EventsAreThoseOfTheChannel = (channel : Chan) (cues : List Cue) → slots_of (events_from channel 1 cues) ≡ event_slots (channel_events channel cues)

-- each slot is this one or a later one
abbrev pub BeginFrom : ℕ → List ℕ → Type 0
BeginFrom n [] = ⊤
BeginFrom n (slot ∷ slots) = (n ≤ slot) × BeginFrom n slots

-- the slots rise, each by two at least
abbrev pub LieApart : List ℕ → Type 0
LieApart [] = ⊤
LieApart (slot ∷ slots) = BeginFrom (slot + 2) slots × LieApart slots

abbrev pub event_cue : CueEvent → ℕ
event_cue event = event.cue

-- no event begins before the one before it has ended, and they are in the order of their cues
pub record AreOrdered (events : List CueEvent) : Type 0 where
  pub apart : LieApart (slots_of events)
  pub order : AreInCueOrder event_cue events
