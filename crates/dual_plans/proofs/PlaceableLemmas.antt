-- The units and events of a channel's cues are as placing and coding them for data channel 2 ask.
use Rattle.std.proofs.Common.{◌≡◌, ℕ, ◌==◌, Bool, true, false, List, [], ◌∷◌, ◌++◌, Option, Some, None, All, refl, sym, subst}
use Rattle.std.specs.Prelude.{if◌then◌else◌}
use Rattle.std.specs.Option.{option_map}
use Rattle.std.proofs.lemmas.List.Elements.{All-append, All-cons, All-nil}
use Rattle.line21_codes.specs.declared.channels.Chan.{Chan}
use Rattle.line21_codes.specs.declared.channels.DataChannel.{DataChannel}
use Rattle.line21_codes.specs.declared.channels.DataChannel.TheVariants.{One}
use Rattle.line21_codes.specs.declared.channels.FieldNumber.{FieldNumber}
use Rattle.line21_codes.specs.declared.codes.Control.{Control}
use Rattle.line21_codes.specs.declared.codes.Control.TheVariants.{Edm, Eoc}
use Rattle.line21_codes.specs.Channels.{field_of_channel}
use Rattle.line21_codes.specs.Reading.{code_of}
use Rattle.line21_codes.specs.Writable.{IsWritable, IsWritableControl}
use Rattle.line21_codes.proofs.CodeLemmas.{written-code_of}
use Rattle.cue_lists.specs.Cues.{IsCueFormed}
use Rattle.cue_lists.specs.declared.cue.Cue.{Cue}
use Rattle.cue_lists.specs.Rules.Lane.{is_pop}
use Rattle.line21_author.specs.Channels.{cues_on}
use Rattle.line21_author.specs.CueEvents.{control_event, cue_events, hide_events, is_replaced_at, show_events}
use Rattle.line21_author.specs.FirstChannel.{first_channel}
use Rattle.line21_author.specs.declared.event.Event.{Event}
use Rattle.line21_author.proofs.SlotSequenceLemmas.{AreInSlots}
use Rattle.lanes.specs.LaneEvents.{event_at}
use Rattle.lanes.specs.FieldPlan.{field_chunk_cue}
use Rattle.lanes.specs.declared.chunk.FieldChunk.{FieldChunk}
use Rattle.frame_carrier.specs.SlotLists.{slot_cues, slots_in_list}
use Rattle.lanes.proofs.ChannelOrderLemmas.{channel_in_order}
use Rattle.frame_carrier.proofs.SlotLemmas.{slot_cues_formed, slot_sequence}
use Rattle.lanes.specs.LaneRoom.{AreInCueOrder, AreOfCuesFrom}
use Rattle.dual_fields.specs.Parts.{BeginWithFirst, IsBegun, part_cue}
use Rattle.dual_fields.specs.declared.part.Part.{Part}
use Rattle.dual_fields.specs.ChannelParts.{channel_parts}
use Rattle.dual_fields.specs.Lanes.{AreCues, IsBehind, part_chunks}
use Rattle.dual_fields.specs.Seen.{second_parts, second_timeline, second_unit}
use Rattle.dual_fields.specs.Together.{AreOfChannel}
use Rattle.dual_fields.proofs.ListedLemmas.{channel_listed, channel_chunks_from_back}
use Rattle.dual_plans.specs.Placeable.{ChannelsAreReady, IsChannelReady, SecondEventsBegin}
use Rattle.dual_plans.specs.SecondChannel.{second_event, second_events}

-- a cue's first unit is doubled
begun_all : (former : Option Part) (parts : List Part) → AreCues former parts → All IsBegun parts
begun_all former [] cues = All-nil IsBegun
begun_all former (part ∷ parts) cues =
    All-cons IsBegun part parts (λ first. here part.later first cues.0) (begun_all (Some part) parts cues.1)
  where
    here : (later : Bool) → later ≡ false → IsBehind later former part → part.chunk.unit.doubled ≡ true
    here true first behind = cc
    here false first behind = behind.doubled

first_of_all : (parts : List Part) → AreCues None parts → BeginWithFirst parts
first_of_all [] cues = tt
first_of_all (part ∷ parts) cues = here part.later refl cues.0
  where
    here : (later : Bool) → part.later ≡ later → IsBehind later None part → part.later ≡ false
    here true is behind = absurd behind
    here false is behind = is

-- the cues are in the order of their chunks
from_chunks : (cue : ℕ) (parts : List Part) → AreOfCuesFrom field_chunk_cue cue (part_chunks parts) → AreOfCuesFrom part_cue cue parts
from_chunks cue [] from = tt
from_chunks cue (part ∷ parts) from = (from.0, from_chunks cue parts from.1)

in_order : (parts : List Part) → AreInCueOrder field_chunk_cue (part_chunks parts) → AreInCueOrder part_cue parts
in_order [] order = tt
in_order (part ∷ parts) order = (from_chunks part.chunk.cue parts order.0, in_order parts order.1)

-- with other codes they are as before
begun_second : (f : FieldNumber) (former : Option Part) (parts : List Part) → AreCues former parts → All IsBegun (second_parts f parts)
begun_second f former [] cues = All-nil IsBegun
begun_second f former (part ∷ parts) cues =
    All-cons IsBegun _ (second_parts f parts) (λ first. here part.later first cues.0) (begun_second f (Some part) parts cues.1)
  where
    here : (later : Bool) → later ≡ false → IsBehind later former part → part.chunk.unit.doubled ≡ true
    here true first behind = cc
    here false first behind = behind.doubled

from_second : (f : FieldNumber) (cue : ℕ) (parts : List Part) → AreOfCuesFrom part_cue cue parts → AreOfCuesFrom part_cue cue (second_parts f parts)
from_second f cue [] from = tt
from_second f cue (part ∷ parts) from = (from.0, from_second f cue parts from.1)

order_second : (f : FieldNumber) (parts : List Part) → AreInCueOrder part_cue parts → AreInCueOrder part_cue (second_parts f parts)
order_second f [] order = tt
order_second f (part ∷ parts) order = (from_second f part.chunk.cue parts order.0, order_second f parts order.1)

first_second : (f : FieldNumber) (parts : List Part) → BeginWithFirst parts → BeginWithFirst (second_parts f parts)
first_second f [] first = tt
first_second f (part ∷ parts) first = first

-- the codes of a channel can be written
units_writable : (c : DataChannel) (parts : List Part) → AreOfChannel c parts → All (λ (part : Part). IsWritable (code_of part.chunk.unit.pair)) parts
units_writable c [] own = All-nil (λ (part : Part). IsWritable (code_of part.chunk.unit.pair))
units_writable c (part ∷ parts) own =
    All-cons (λ (part : Part). IsWritable (code_of part.chunk.unit.pair)) part parts own.0.writable (units_writable c parts own.2)

firsts_writable : (c : DataChannel) (parts : List Part) → AreOfChannel c parts → All (λ (part : Part). IsWritable (code_of part.first.pair)) parts
firsts_writable c [] own = All-nil (λ (part : Part). IsWritable (code_of part.first.pair))
firsts_writable c (part ∷ parts) own =
    All-cons (λ (part : Part). IsWritable (code_of part.first.pair)) part parts own.1.writable (firsts_writable c parts own.2)

abbrev Codes : Event → Type 0
Codes event = IsWritable (code_of event.pair)

event_codes : (f : FieldNumber) (slot : ℕ) (control : Control) → IsWritableControl control → Codes (control_event f slot control)
event_codes f slot control writable = subst IsWritable (sym (written-code_of f (first_channel control) writable)) writable

show_codes : (f : FieldNumber) (pop_on : Bool) (show : ℕ) → All Codes (if pop_on then control_event f show Eoc ∷ [] else [])
show_codes f true show = All-cons Codes (control_event f show Eoc) [] (event_codes f show Eoc tt) (All-nil Codes)
show_codes f false show = All-nil Codes

replaced_codes : (f : FieldNumber) (replaced : Bool) (hide : ℕ) → All Codes (if replaced then [] else control_event f hide Edm ∷ [])
replaced_codes f true hide = All-nil Codes
replaced_codes f false hide = All-cons Codes (control_event f hide Edm) [] (event_codes f hide Edm tt) (All-nil Codes)

hide_codes : (f : FieldNumber) (hide : Option ℕ) (later : List Cue) → All Codes (hide_events f hide later)
hide_codes f None later = All-nil Codes
hide_codes f (Some hide) later = replaced_codes f (is_replaced_at hide later) hide

events_codes : (f : FieldNumber) (cues : List Cue) → All Codes (cue_events f cues)
events_codes f [] = All-nil Codes
events_codes f (cue ∷ later) =
    All-append Codes (show_events f cue ++ hide_events f cue.hide later) (cue_events f later)
    (All-append Codes (show_events f cue) (hide_events f cue.hide later) (show_codes f (is_pop cue.kind) cue.show) (hide_codes f cue.hide later))
    (events_codes f later)

channel_ready : (f : FieldNumber) (channel : Chan) (slots : ℕ) (cues : List Cue) → All IsCueFormed cues → AreInSlots slots (cues_on channel cues)
    → IsChannelReady f channel cues
channel_ready f channel slots cues formed sequence =
    let listed = channel_listed channel slots cues formed sequence in
    let order : AreInCueOrder part_cue (channel_parts channel cues) =
    in_order (channel_parts channel cues)
    (subst (λ (l : List FieldChunk). AreInCueOrder field_chunk_cue l) (sym (channel_chunks_from_back channel 1 cues)) (channel_in_order channel cues)) in
    let first = first_of_all (channel_parts channel cues) listed.cues in
    record {
      placeable = record { begun = begun_all None (channel_parts channel cues) listed.cues; order = order; first = first };
      second = record {
        begun = begun_second f None (channel_parts channel cues) listed.cues;
        order = order_second f (channel_parts channel cues) order;
        first = first_second f (channel_parts channel cues) first;
      };
      writable = record {
        units = units_writable One (channel_parts channel cues) listed.parts_own;
        firsts = firsts_writable One (channel_parts channel cues) listed.parts_own;
      };
      events = events_codes (field_of_channel channel) (cues_on channel cues);
    }

pub channels_ready : ChannelsAreReady
channels_ready list channel formed ruled =
    channel_ready (field_of_channel channel) channel (slots_in_list list channel) (slot_cues list channel) (slot_cues_formed list formed channel) (slot_sequence list ruled channel)

pub second_begin : SecondEventsBegin
second_begin f [] n = refl
second_begin f (event ∷ events) n = by_test (n == event.slot) (second_begin f events n)
  where
    by_test : (b : Bool) → event_at (second_events f events) n ≡ second_timeline f (event_at events) n
        → (if b then Some (record { pair = (second_event f event).pair; doubled = true }) else event_at (second_events f events) n)
        ≡ option_map (second_unit f) (if b then Some (record { pair = event.pair; doubled = true }) else event_at events n)
    by_test true rest = refl
    by_test false rest = rest
