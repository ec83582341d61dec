-- In the columns of a placed list every control pair is doubled.
use Rattle.std.proofs.Common.{◌≡◌, ◌∙◌, append-nil, ◌<◌, ◌≤◌, ◌+◌, ◌++◌, ℕ, zero, suc, List, [], ◌∷◌, ap, refl, sym, subst, arith, true, false, Bool, Option, Some, None, All}
use Rattle.std.specs.Prelude.{if◌then◌else◌, IfSome, IsTrue, MatchOption, option_to_list}
use Rattle.std.specs.Option.{option_map}
use Rattle.std.specs.List.{AllByRecursion}
use Rattle.std.proofs.lemmas.List.Elements.{All-append, All-head, All-map, All-nil, All-tail, All-weaker}
use Rattle.line21_codes.specs.declared.channels.FieldNumber.{FieldNumber}
use Rattle.line21_codes.specs.declared.channels.FieldNumber.TheVariants.{One, Two}
use Rattle.line21_codes.specs.ControlPairs.{is_control}
use Rattle.line21_codes.specs.declared.channels.Chan.{Chan}
use Rattle.line21_codes.specs.declared.channels.Chan.TheVariants.{Cc1, Cc3}
use Rattle.cue_lists.specs.Cues.{IsCueFormed}
use Rattle.cue_lists.specs.Listing.{IsFormed, Listing}
use Rattle.cue_lists.specs.Rules.{IsRuled}
use Rattle.cue_lists.specs.declared.cue.Cue.{Cue}
use Rattle.cue_lists.specs.declared.lane.Lane.TheVariants.{Channel}
use Rattle.line21_codes.specs.declared.pairs.Pair.{Pair}
use Rattle.lanes.specs.Channels.{cues_on, is_on}
use Rattle.cue_lists.specs.Cadences.{cadence_of, has_slot_in, slot_from, slot_in}
use Rattle.cue_lists.specs.Cadence.{Cadence}
use Rattle.cue_lists.proofs.CadenceLemmas.{slot_from_first, slot_more, slot_no_more}
use Rattle.lanes.specs.CueEvents.{channel_events}
use Rattle.lanes.specs.CueUnits.{units_of}
use Rattle.lanes.specs.EventPairs.{IsControlEvent}
use Rattle.lanes.specs.UnitPairs.{IsCarried}
use Rattle.lanes.specs.Event.{Event}
use Rattle.lanes.specs.Unit.{Unit}
use Rattle.lanes.proofs.CueEventsLemmas.{channel_events_control}
use Rattle.lanes.proofs.CueUnitsLemmas.{units_of_carried}
use Rattle.lanes.proofs.SlotSequenceLemmas.{IsSoundInSlots, all_sound_in_slots}
use Rattle.lanes.specs.declared.chunk.FieldChunk.{FieldChunk}
use Rattle.lanes.specs.ChannelLane.{IsChannelPlaced, channel_chunks, field_cue_chunks, channel_chunks_from}
use Rattle.frame_scheduler.specs.Columns.{Columns, first_pairs, pair_in}
use Rattle.lanes.specs.DoubledPairs.{IsDoubled}
use Rattle.lanes.specs.LaneDoubling.{AreDoubledControls, AreEnded}
use Rattle.lanes.specs.LaneEvents.{AreOver, event_at}
use Rattle.lanes.specs.LaneTimeline.{lane_timeline}
use Rattle.frame_scheduler.specs.Planned.{IsListPlaced, Placement, columns_of}
use Rattle.frame_scheduler.specs.SlotLists.{slot_cues, slots_in_list}
use Rattle.lanes.specs.Timeline.{Timeline, column, slot}
use Rattle.lanes.proofs.DoublingLemmas.{lane_doubled}
use Rattle.frame_scheduler.proofs.EventsApartLemmas.{events_apart, events_within}
use Rattle.frame_scheduler.proofs.SlotLemmas.{slot_cues_formed, slot_sequence}

-- a unit's pair is a control pair where it is doubled, and its time has ended at the list's end
record IsWithin (frames : ℕ) (chunk : FieldChunk) : Type 0 where
  doubled : is_control chunk.unit.pair ≡ chunk.unit.doubled
  ended : chunk.until ≤ frames

show_within : (show frames : ℕ) (hide : Option ℕ) → MatchOption hide (show < frames) (λ h. h + 2 ≤ frames) → IfSome hide (λ h. show < h) → show ≤ frames
show_within show frames None ended hidden = omega arith
show_within show frames (Some h) ended hidden = omega arith

cue_within : (frames number : ℕ) (cue : Cue) → IsCueFormed cue → IsSoundInSlots frames cue → All (IsWithin frames) (field_cue_chunks number cue)
cue_within frames number cue formed sound =
    All-map (IsWithin frames) (λ (unit : Unit). record { unit = unit; load = cue.load; until = cue.show; cue = number }) (units_of cue)
    (All-weaker IsCarried (λ (unit : Unit). IsWithin frames (record { unit = unit; load = cue.load; until = cue.show; cue = number }))
    (λ unit carried. record { doubled = carried.doubled; ended = show_within cue.show frames cue.hide sound.ended sound.hidden })
    (units_of cue) (units_of_carried cue formed))

chunks_within : (channel : Chan) (frames number : ℕ) (cues : List Cue) → All IsCueFormed cues → AllByRecursion (IsSoundInSlots frames) (cues_on channel cues)
    → All (IsWithin frames) (channel_chunks_from channel number cues)
chunks_within channel frames number [] formed sound = All-nil (IsWithin frames)
chunks_within channel frames number (cue ∷ cues) formed sound =
    let behind = chunks_within channel frames (suc number) cues (All-tail IsCueFormed cue cues formed) in
    (elim (is_on channel cue.kind) as (λ on. AllByRecursion (IsSoundInSlots frames) (if on then cue ∷ cues_on channel cues else cues_on channel cues)
    → All (IsWithin frames) ((if on then field_cue_chunks number cue else []) ++ channel_chunks_from channel (suc number) cues)) [
      | true ↦ λ all. All-append (IsWithin frames) (field_cue_chunks number cue) (channel_chunks_from channel (suc number) cues)
          (cue_within frames number cue (All-head IsCueFormed cue cues formed) all.0) (behind all.1)
      | false ↦ λ all. behind all
    ]) sound

events_over : (frames : ℕ) (events : List Event) → All (λ event. event.slot + 2 ≤ frames) events → AreOver frames events
events_over frames [] all = tt
events_over frames (event ∷ events) all =
    (All-head (λ event. event.slot + 2 ≤ frames) event events all, events_over frames events (All-tail (λ event. event.slot + 2 ≤ frames) event events all))

-- the units of a channel's cues are within the list, and doubled where their pairs are control pairs
channel_within : (list : Listing) (channel : Chan) → IsFormed list → IsRuled list
    → All (IsWithin (slots_in_list list channel)) (channel_chunks channel (slot_cues list channel))
channel_within list channel formed ruled =
    chunks_within channel (slots_in_list list channel) 1 (slot_cues list channel) (slot_cues_formed list formed channel)
    (all_sound_in_slots (slots_in_list list channel) (cues_on channel (slot_cues list channel)) (slot_sequence list ruled channel))

-- what begins on a channel is doubled exactly where it is a control pair
pub channel_controls : (list : Listing) (channel : Chan) → IsFormed list → IsRuled list
    → AreDoubledControls (channel_events channel (slot_cues list channel)) (channel_chunks channel (slot_cues list channel))
channel_controls list channel formed ruled =
    let events = channel_events channel (slot_cues list channel) in
    let chunks = channel_chunks channel (slot_cues list channel) in
    record {
      events_are = All-weaker IsControlEvent (λ event. IsTrue (is_control event.pair)) (λ event control. control.control) events
          (channel_events_control channel (slot_cues list channel) events refl);
      chunks_are = All-weaker (IsWithin (slots_in_list list channel)) (λ chunk. is_control chunk.unit.pair ≡ chunk.unit.doubled) (λ chunk w. w.doubled) chunks
          (channel_within list channel formed ruled);
    }

-- what begins in the slots of a channel
abbrev pub channel_timeline : Listing → Chan → List ℕ → Timeline
channel_timeline list channel placed = lane_timeline (event_at (channel_events channel (slot_cues list channel))) (channel_chunks channel (slot_cues list channel)) placed

-- all that a channel sends has ended when the list has
pub channel_ended : (list : Listing) (channel : Chan) → IsFormed list → IsRuled list
    → AreEnded (channel_events channel (slot_cues list channel)) (channel_chunks channel (slot_cues list channel)) (slots_in_list list channel)
channel_ended list channel formed ruled =
    let slots = slots_in_list list channel in
    record {
      events_are = events_over slots (channel_events channel (slot_cues list channel)) (events_within list formed ruled channel);
      chunks_are = All-weaker (IsWithin slots) (λ chunk. chunk.until ≤ slots) (λ chunk w. w.ended) (channel_chunks channel (slot_cues list channel))
          (channel_within list channel formed ruled);
    }

-- the slots of a channel are doubled
channel_doubled : (list : Listing) (channel : Chan) (placed : List ℕ) → IsFormed list → IsRuled list → IsChannelPlaced channel (slot_cues list channel) placed
    → IsDoubled (column (channel_timeline list channel placed) (slots_in_list list channel))
channel_doubled list channel placed formed ruled earliest =
    lane_doubled (channel_events channel (slot_cues list channel)) (channel_chunks channel (slot_cues list channel)) placed (slots_in_list list channel)
    (events_apart list ruled channel) (channel_controls list channel formed ruled) (channel_ended list channel formed ruled) earliest.placed

-- one more frame has one more pair where it has a slot
column_and : (c : Cadence) (t : Timeline) (n : ℕ)
    → column t (slot_from c n) ++ option_to_list (option_map (slot t) (slot_in c n)) ≡ column t (slot_from c (suc n))
column_and c t n = by_test (has_slot_in c n) refl
  where
    by_test : (b : Bool) → has_slot_in c n ≡ b
        → column t (slot_from c n) ++ option_to_list (option_map (slot t) (slot_in c n)) ≡ column t (slot_from c (suc n))
    by_test true test = rw test (ap (column t) (sym (slot_more c n test)))
    by_test false test = rw test (append-nil (column t (slot_from c n)) ∙ ap (column t) (sym (slot_no_more c n test)))

-- where the pairs of a field are the slots of a timeline, frame by frame, the pairs in the frames below n are its slots in these frames
pub pairs_column : (c : Cadence) (t : Timeline) (in_field : FieldNumber) (columns : Columns)
    → ((n : ℕ) → pair_in in_field (columns n) ≡ option_map (slot t) (slot_in c n)) → (n : ℕ) → first_pairs in_field columns n ≡ column t (slot_from c n)
pairs_column c t in_field columns have zero = ap (column t) (sym (slot_from_first c))
pairs_column c t in_field columns have (suc n) =
    ap (λ (o : Option Pair). first_pairs in_field columns n ++ option_to_list o) (have n)
    ∙ ap (λ (l : List Pair). l ++ option_to_list (option_map (slot t) (slot_in c n))) (pairs_column c t in_field columns have n)
    ∙ column_and c t n

-- the pairs of a field in the frames below n are the slots of its channel in these frames
pub field_one_is : (list : Listing) (placed : Placement) (n : ℕ)
    → first_pairs One (columns_of list placed) n ≡ column (channel_timeline list Cc1 (placed (Channel Cc1))) (slot_from (cadence_of list.rate Cc1) n)
field_one_is list placed =
    pairs_column (cadence_of list.rate Cc1) (channel_timeline list Cc1 (placed (Channel Cc1))) One (columns_of list placed) (λ n. refl)

pub field_two_is : (list : Listing) (placed : Placement) (n : ℕ)
    → first_pairs Two (columns_of list placed) n ≡ column (channel_timeline list Cc3 (placed (Channel Cc3))) (slot_from (cadence_of list.rate Cc3) n)
field_two_is list placed =
    pairs_column (cadence_of list.rate Cc3) (channel_timeline list Cc3 (placed (Channel Cc3))) Two (columns_of list placed) (λ n. refl)

-- the pairs of each field of a placed list are doubled
pub columns_doubled : (list : Listing) (placed : Placement) → IsFormed list → IsRuled list → IsListPlaced list placed
    → (in_field : FieldNumber) → IsDoubled (first_pairs in_field (columns_of list placed) list.frames)
columns_doubled list placed formed ruled is One =
    subst IsDoubled (sym (field_one_is list placed list.frames)) (channel_doubled list Cc1 (placed (Channel Cc1)) formed ruled (is (Channel Cc1)))
columns_doubled list placed formed ruled is Two =
    subst IsDoubled (sym (field_two_is list placed list.frames)) (channel_doubled list Cc3 (placed (Channel Cc3)) formed ruled (is (Channel Cc3)))
