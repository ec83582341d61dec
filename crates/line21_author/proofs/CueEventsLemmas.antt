use Rattle.std.proofs.Common.{◌≡◌, ℕ, ◌+◌, ◌*◌, ◌<◌, ◌≤◌, Bool, true, false, ◌==◌, ◌&&◌, List, [], ◌∷◌, ◌++◌, refl, sym, subst, arith}
use Rattle.std.specs.Prelude.{Option, Some, None, All, IfSome, if◌then◌else◌}
use Rattle.std.specs.List.{AllByRecursion}
use Rattle.std.proofs.lemmas.Bool.Decides.{nat_tests}
use Rattle.std.proofs.lemmas.List.Elements.{All-from_recursion, All-same, recursion_from_All}
use Rattle.line21_codes.specs.declared.channels.FieldNumber.{FieldNumber}
use Rattle.line21_codes.specs.declared.codes.Control.{Control}
use Rattle.line21_codes.specs.declared.codes.Control.TheVariants.{Eoc, Edm}
use Rattle.line21_codes.specs.Writable.{IsWritableControl}
use Rattle.line21_codes.proofs.CodeLemmas.{written-odd, is_control-written}
use Rattle.cue_lists.specs.declared.cue.Cue.{Cue}
use Rattle.cue_lists.specs.Rules.Lane.{is_pop}
use Rattle.cue_lists.specs.Rules.Sentences.{AreInSequence, IsOnSlots}
use Rattle.cue_lists.proofs.ChannelCues.{roll_is_not_pop}
use Rattle.line21_author.specs.declared.event.Event.{Event}
use Rattle.line21_codes.specs.declared.channels.Chan.{Chan}
use Rattle.line21_codes.specs.Channels.{field_of_channel}
use Rattle.line21_author.specs.Channels.{cues_on}
use Rattle.cue_lists.specs.Cadences.{slot_from, step_of}
use Rattle.cue_lists.specs.Cadence.{Cadence}
use Rattle.line21_author.specs.CueSlots.{cues_in_slots}
use Rattle.line21_author.specs.FirstChannel.{first_channel}
use Rattle.line21_author.specs.CueEvents.{control_event, show_events, hide_events, is_replaced_at, cue_events, channel_events}
use Rattle.line21_author.specs.EventPairs.{IsControlEvent}
use Rattle.line21_author.specs.EventOrder.{AreFrom, AreApart}
use Rattle.line21_author.proofs.CueSlotLemmas.{cues_on_slots}
use Rattle.line21_author.proofs.SlotSequenceLemmas.{AreInSlots, in_slots}

-- the event of a code that can be written has a control pair
event_of_control : (in_field : FieldNumber) (frame : ℕ) (control : Control) → IsWritableControl control
    → IsControlEvent (control_event in_field frame control)
event_of_control in_field frame control writable =
    record {
      parity = written-odd in_field (first_channel control) writable;
      control = is_control-written in_field (first_channel control) writable;
    }

-- events before events
controls-append : (events more : List Event) → AllByRecursion IsControlEvent events → AllByRecursion IsControlEvent more
    → AllByRecursion IsControlEvent (events ++ more)
controls-append [] more all too = too
controls-append (event ∷ events) more all too = (all.0, controls-append events more all.1 too)

-- what shows a cue has a control pair
show_control : (in_field : FieldNumber) (pop_on : Bool) (show : ℕ)
    → AllByRecursion IsControlEvent (if pop_on then control_event in_field show Eoc ∷ [] else [])
show_control in_field true show = (event_of_control in_field show Eoc tt, tt)
show_control in_field false show = tt

-- so has what hides it
hide_control_at : (in_field : FieldNumber) (replaced : Bool) (hide : ℕ)
    → AllByRecursion IsControlEvent (if replaced then [] else control_event in_field hide Edm ∷ [])
hide_control_at in_field true hide = tt
hide_control_at in_field false hide = (event_of_control in_field hide Edm tt, tt)

hide_control : (in_field : FieldNumber) (hide : Option ℕ) (later : List Cue)
    → AllByRecursion IsControlEvent (hide_events in_field hide later)
hide_control in_field None later = tt
hide_control in_field (Some hide) later = hide_control_at in_field (is_replaced_at hide later) hide

-- every event has a control pair
events_control : (in_field : FieldNumber) (cues : List Cue) → AllByRecursion IsControlEvent (cue_events in_field cues)
events_control in_field [] = tt
events_control in_field (cue ∷ later) =
    controls-append (show_events in_field cue ++ hide_events in_field cue.hide later) (cue_events in_field later)
    (controls-append (show_events in_field cue) (hide_events in_field cue.hide later)
    (show_control in_field (is_pop cue.kind) cue.show) (hide_control in_field cue.hide later))
    (events_control in_field later)

pub events_of_control : (in_field : FieldNumber) (cues : List Cue) → All IsControlEvent (cue_events in_field cues)
events_of_control in_field cues = All-from_recursion IsControlEvent (cue_events in_field cues) (events_control in_field cues)

-- the first slot in which a cue's first event may be
abbrev first_from : Bool → Cue → ℕ
first_from pop_on cue = if pop_on then cue.show else cue.show + 1

-- the first slot in which its HIDE may be
abbrev hides_from : Bool → Cue → ℕ
hides_from pop_on cue = if pop_on then cue.show + 2 else cue.show + 1

-- the events are at slot n or later, and apart
record IsFitFrom (n : ℕ) (events : List Event) : Type 0 where
  from : AreFrom n events
  apart : AreApart events

-- events from a slot on are from an earlier slot on
AreFrom-weaker : (n m : ℕ) (events : List Event) → m ≤ n → AreFrom n events → AreFrom m events
AreFrom-weaker n m [] below from = tt
AreFrom-weaker n m (event ∷ events) below from = (omega (arith, from.0), AreFrom-weaker n m events below from.1)

IsFitFrom-weaker : (n m : ℕ) (events : List Event) → m ≤ n → IsFitFrom n events → IsFitFrom m events
IsFitFrom-weaker n m events below fit = record { from = AreFrom-weaker n m events below fit.from; apart = fit.apart }

-- one event two slots before others
IsFitFrom-cons : (n : ℕ) (event : Event) (events : List Event) → n ≤ event.slot → IsFitFrom (event.slot + 2) events
    → IsFitFrom n (event ∷ events)
IsFitFrom-cons n event events below fit =
    record {
      from = (below, AreFrom-weaker (event.slot + 2) n events (omega arith) fit.from);
      apart = (fit.from, fit.apart);
    }

-- a cue's HIDE is not before that slot
hides_after : (pop_on : Bool) (cue : Cue) (hide : Option ℕ) → IfSome hide (λ h. cue.show < h)
    → (pop_on ≡ true → IfSome hide (λ h. cue.show + 2 ≤ h)) → IfSome hide (λ h. hides_from pop_on cue ≤ h)
hides_after pop_on cue None hidden stays = tt
hides_after true cue (Some h) hidden stays = stays refl
hides_after false cue (Some h) hidden stays = omega arith

-- what hides a cue and the events of the next one
hide_fit_at : (in_field : FieldNumber) (pop_on same : Bool) (n hide : ℕ) (next : Cue) (events : List Event) → (next.show == hide) ≡ same
    → n ≤ hide → hide ≤ next.show → (pop_on ≡ true → hide < next.show → hide + 2 * 1 ≤ next.show) → (pop_on ≡ false → hide < next.show)
    → IsFitFrom (first_from pop_on next) events
    → IsFitFrom n ((if pop_on && same then [] else control_event in_field hide Edm ∷ []) ++ events)
hide_fit_at in_field false same n hide next events test below shown apart vacated fit =
    let after : hide < next.show = vacated refl in
    IsFitFrom-cons n (control_event in_field hide Edm) events below
    (IsFitFrom-weaker (next.show + 1) (hide + 2) events (omega arith) fit)
hide_fit_at in_field true true n hide next events test below shown apart vacated fit =
    IsFitFrom-weaker next.show n events (omega arith) fit
hide_fit_at in_field true false n hide next events test below shown apart vacated fit =
    let less : hide < next.show = grind (arith, nat_tests) in
    let later : hide + 2 ≤ next.show = omega (arith, apart refl less) in
    IsFitFrom-cons n (control_event in_field hide Edm) events below
    (IsFitFrom-weaker next.show (hide + 2) events later fit)

hide_fit : (in_field : FieldNumber) (n : ℕ) (cue : Cue) (hide : Option ℕ) (next : Cue) (later : List Cue) (events : List Event)
    → IfSome hide (λ h. n ≤ h) → n ≤ cue.show + 2 → cue.show < next.show
    → IfSome hide (λ h. h ≤ next.show) → (is_pop next.kind ≡ true → IfSome hide (λ h. h < next.show → h + 2 * 1 ≤ next.show))
    → (is_pop next.kind ≡ false → IfSome hide (λ h. h < next.show))
    → (hide ≡ None → is_pop next.kind ≡ false)
    → IsFitFrom (first_from (is_pop next.kind) next) events
    → IsFitFrom n (hide_events in_field hide (next ∷ later) ++ events)
hide_fit in_field n cue None next later events below bound behind shown apart loaded stays fit =
    IsFitFrom-weaker (next.show + 1) n events (omega arith)
    (subst (λ (pop_on : Bool). IsFitFrom (first_from pop_on next) events) (stays refl) fit)
hide_fit in_field n cue (Some hide) next later events below bound behind shown apart loaded stays fit =
    hide_fit_at in_field (is_pop next.kind) (next.show == hide) n hide next events refl below shown apart loaded fit

-- what shows a cue and the events after it
show_fit : (in_field : FieldNumber) (pop_on : Bool) (cue : Cue) (hides events : List Event)
    → IsFitFrom (hides_from pop_on cue) (hides ++ events)
    → IsFitFrom (first_from pop_on cue) ((if pop_on then control_event in_field cue.show Eoc ∷ [] else []) ++ hides ++ events)
show_fit in_field true cue hides events fit =
    IsFitFrom-cons cue.show (control_event in_field cue.show Eoc) (hides ++ events) (omega arith) fit
show_fit in_field false cue hides events fit = fit

-- what hides the last cue
last_fit : (in_field : FieldNumber) (n : ℕ) (hide : Option ℕ) → IfSome hide (λ h. n ≤ h)
    → IsFitFrom n (hide_events in_field hide [] ++ [])
last_fit in_field n None below = record { from = tt; apart = tt }
last_fit in_field n (Some hide) below = record { from = (below, tt); apart = (tt, tt) }

-- that slot is two slots after SHOW at most
hides_from_low : (pop_on : Bool) (cue : Cue) → hides_from pop_on cue ≤ cue.show + 2
hides_from_low true cue = omega arith
hides_from_low false cue = omega arith

-- the events of cues in sequence
sequence_fit : (in_field : FieldNumber) (slots : ℕ) (cue : Cue) (later : List Cue) → AreInSlots slots (cue ∷ later)
    → IsFitFrom (first_from (is_pop cue.kind) cue) (cue_events in_field (cue ∷ later))
sequence_fit in_field slots cue [] sequence =
    show_fit in_field (is_pop cue.kind) cue (hide_events in_field cue.hide []) []
    (last_fit in_field (hides_from (is_pop cue.kind) cue) cue.hide
    (hides_after (is_pop cue.kind) cue cue.hide sequence.hidden sequence.stays))
sequence_fit in_field slots cue (next ∷ later) sequence =
    show_fit in_field (is_pop cue.kind) cue (hide_events in_field cue.hide (next ∷ later))
    (cue_events in_field (next ∷ later))
    (hide_fit in_field (hides_from (is_pop cue.kind) cue) cue cue.hide next later (cue_events in_field (next ∷ later))
    (hides_after (is_pop cue.kind) cue cue.hide sequence.0.hidden sequence.0.stays)
    (hides_from_low (is_pop cue.kind) cue)
    sequence.1.later sequence.1.link.shown sequence.1.link.apart sequence.1.vacated
    (λ none. roll_is_not_pop next.kind (sequence.1.link.continued none).roll) (sequence_fit in_field slots next later sequence.2))

-- the events of cues in sequence are apart
pub events_of_apart : (in_field : FieldNumber) (slots : ℕ) (cues : List Cue) → AreInSlots slots cues → AreApart (cue_events in_field cues)
events_of_apart in_field slots [] sequence = tt
events_of_apart in_field slots (cue ∷ later) sequence = (sequence_fit in_field slots cue later sequence).apart

-- the events of a channel have control pairs, and are apart where its cues are in sequence
pub channel_events_control : (channel : Chan) (cues : List Cue) (events : List Event) → events ≡ channel_events channel cues
    → All IsControlEvent events
channel_events_control channel cues events is =
    All-same IsControlEvent events (channel_events channel cues) is
    (events_of_control (field_of_channel channel) (cues_on channel cues))

pub channel_events_apart : (c : Cadence) (channel : Chan) (cues : List Cue) (events : List Event) → events ≡ channel_events channel (cues_in_slots c cues)
    → (frames : ℕ) → AreInSequence (step_of c) frames (cues_on channel cues) → All (IsOnSlots c) (cues_on channel cues) → AreApart events
channel_events_apart c channel cues events is frames sequence on =
    subst (λ (es : List Event). AreApart es) (sym is)
    (events_of_apart (field_of_channel channel) (slot_from c frames) (cues_on channel (cues_in_slots c cues))
    (subst (AreInSlots (slot_from c frames)) (sym (cues_on_slots c channel cues))
    (in_slots c frames (cues_on channel cues) sequence (recursion_from_All (IsOnSlots c) (cues_on channel cues) on))))
