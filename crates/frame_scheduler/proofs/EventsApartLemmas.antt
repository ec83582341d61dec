-- The events of a channel of a list that keeps the rules are apart, and within its slots.
use Rattle.std.proofs.Common.{◌≡◌, ℕ, ◌+◌, ◌<◌, ◌≤◌, Bool, true, false, List, [], ◌∷◌, ◌++◌, refl, arith}
use Rattle.std.specs.Prelude.{Option, Some, None, All, IfSome, IsSome, MatchOption, if◌then◌else◌}
use Rattle.std.specs.List.{AllByRecursion}
use Rattle.std.proofs.lemmas.List.Elements.{All-from_recursion, recursion_from_All}
use Rattle.line21_codes.specs.declared.channels.FieldNumber.{FieldNumber}
use Rattle.line21_codes.specs.declared.channels.Chan.{Chan}
use Rattle.line21_codes.specs.declared.codes.Control.TheVariants.{Eoc, Edm}
use Rattle.cue_lists.specs.Cues.{IsCueFormed}
use Rattle.cue_lists.specs.Listing.{IsFormed, Listing}
use Rattle.cue_lists.specs.Rules.{IsRuled}
use Rattle.cue_lists.specs.Rules.Lane.{is_pop}
use Rattle.cue_lists.specs.declared.cue.Cue.{Cue}
use Rattle.cue_lists.proofs.ChannelCues.{cues_on_formed, hides_unless_roll, pop_is_not_roll}
use Rattle.line21_codes.specs.Channels.{field_of_channel}
use Rattle.lanes.specs.Channels.{cues_on}
use Rattle.lanes.specs.CueEvents.{control_event, is_replaced_at, show_events, hide_events, cue_events, channel_events}
use Rattle.lanes.specs.EventOrder.{AreApart}
use Rattle.lanes.specs.Event.{Event}
use Rattle.lanes.proofs.CueEventsLemmas.{events_of_apart}
use Rattle.lanes.proofs.SlotSequenceLemmas.{IsSoundInSlots, all_sound_in_slots}
use Rattle.frame_scheduler.specs.SlotLists.{slot_cues, slots_in_list}
use Rattle.frame_scheduler.proofs.SlotLemmas.{slot_cues_formed, slot_sequence}

-- the events of a channel are apart
pub events_apart : (list : Listing) → IsRuled list → (channel : Chan) → AreApart (channel_events channel (slot_cues list channel))
events_apart list ruled channel =
    events_of_apart (field_of_channel channel) (slots_in_list list channel) (cues_on channel (slot_cues list channel)) (slot_sequence list ruled channel)

-- the event has ended when this many slots have
abbrev pub HasEnded : ℕ → Event → Type 0
HasEnded frames event = event.slot + 2 ≤ frames

-- events before events
ended-append : (frames : ℕ) (events more : List Event) → AllByRecursion (HasEnded frames) events
    → AllByRecursion (HasEnded frames) more → AllByRecursion (HasEnded frames) (events ++ more)
ended-append frames [] more all too = too
ended-append frames (event ∷ events) more all too = (all.0, ended-append frames events more all.1 too)

-- what shows a cue with a HIDE has ended
show_ended_at : (frames show : ℕ) (hide : Option ℕ) → IsSome hide → IfSome hide (λ frame. show < frame)
    → MatchOption hide (show < frames) (λ frame. frame + 2 ≤ frames) → show + 2 ≤ frames
show_ended_at frames show None some hidden ended = cc
show_ended_at frames show (Some frame) some hidden ended = omega arith

show_ended : (in_field : FieldNumber) (pop_on : Bool) (frames show : ℕ) → (pop_on ≡ true → show + 2 ≤ frames)
    → AllByRecursion (HasEnded frames) (if pop_on then control_event in_field show Eoc ∷ [] else [])
show_ended in_field true frames show ended = (ended refl, tt)
show_ended in_field false frames show ended = tt

-- what hides a cue has ended
hide_ended_at : (in_field : FieldNumber) (replaced : Bool) (frames hide : ℕ) → hide + 2 ≤ frames
    → AllByRecursion (HasEnded frames) (if replaced then [] else control_event in_field hide Edm ∷ [])
hide_ended_at in_field true frames hide ended = tt
hide_ended_at in_field false frames hide ended = (ended, tt)

hide_ended : (in_field : FieldNumber) (frames show : ℕ) (hide : Option ℕ) (later : List Cue)
    → MatchOption hide (show < frames) (λ frame. frame + 2 ≤ frames)
    → AllByRecursion (HasEnded frames) (hide_events in_field hide later)
hide_ended in_field frames show None later ended = tt
hide_ended in_field frames show (Some hide) later ended =
    hide_ended_at in_field (is_replaced_at hide later) frames hide ended

-- the events of sound cues have ended when the list has
events_ended : (in_field : FieldNumber) (frames : ℕ) (cues : List Cue) → AllByRecursion IsCueFormed cues
    → AllByRecursion (IsSoundInSlots frames) cues → AllByRecursion (HasEnded frames) (cue_events in_field cues)
events_ended in_field frames [] formed sound = tt
events_ended in_field frames (cue ∷ later) formed sound =
    ended-append frames (show_events in_field cue ++ hide_events in_field cue.hide later)
    (cue_events in_field later)
    (ended-append frames (show_events in_field cue) (hide_events in_field cue.hide later)
    (show_ended in_field (is_pop cue.kind) frames cue.show
    (λ pop. show_ended_at frames cue.show cue.hide (hides_unless_roll cue formed.0 (pop_is_not_roll cue.kind pop))
    sound.0.hidden sound.0.ended))
    (hide_ended in_field frames cue.show cue.hide later sound.0.ended))
    (events_ended in_field frames later formed.1 sound.1)

-- each event of a channel has ended when the list has, its repeat counted
pub events_within : (list : Listing) → IsFormed list → IsRuled list → (channel : Chan)
    → All (λ event. event.slot + 2 ≤ slots_in_list list channel) (channel_events channel (slot_cues list channel))
events_within list formed ruled channel =
    let cues = cues_on channel (slot_cues list channel) in
    All-from_recursion (HasEnded (slots_in_list list channel)) (channel_events channel (slot_cues list channel))
    (events_ended (field_of_channel channel) (slots_in_list list channel) cues
    (recursion_from_All IsCueFormed cues (cues_on_formed channel (slot_cues list channel) (slot_cues_formed list formed channel)))
    (all_sound_in_slots (slots_in_list list channel) cues (slot_sequence list ruled channel)))
