-- The units of a load's captions on a channel have a placement: caption k's in the slots from 90 k on, and each event stands
-- 60 slots after a multiple of 90.
use Rattle.std.proofs.Common.{◌≡◌, ℕ, zero, suc, ◌+◌, ◌*◌, ◌<◌, ◌≤◌, ◌%◌, Bool, true, false, List, [], ◌∷◌, ◌++◌, map, Option, Some, None, refl, arith}
use Rattle.std.specs.Prelude.{IfSome}
use Rattle.std.specs.List.{AllByRecursion, range_with_len}
use Rattle.std.proofs.lemmas.List.{length-map}
use Rattle.line21_codes.specs.declared.channels.FieldNumber.{FieldNumber}
use Rattle.line21_codes.specs.Channels.{field_of_channel}
use Rattle.line21_codes.specs.declared.channels.Chan.{Chan}
use Rattle.cue_lists.specs.Cadence.TheVariants.{EveryFrame}
use Rattle.line21_author.specs.Channels.{cues_on, is_on}
use Rattle.line21_author.specs.CueEvents.{channel_events, cue_events, hide_events, is_replaced_at, show_events}
use Rattle.line21_author.specs.CueSlots.{timed_in_slots}
use Rattle.line21_author.specs.CueUnits.{units_of}
use Rattle.line21_author.specs.declared.event.Event.{Event}
use Rattle.line21_author.specs.declared.unit.Unit.{Unit as CodeUnit}
use Rattle.cue_lists.specs.Rules.Lane.{is_pop}
use Rattle.cue_lists.specs.declared.cue.Cue.{Cue}
use Rattle.lanes.specs.ChannelLane.{channel_chunks, field_cue_chunks, channel_chunks_from}
use Rattle.lanes.specs.FieldLane.{end_of}
use Rattle.lanes.specs.LaneEvents.{IsFree}
use Rattle.cue_list_commands.specs.SlotLists.{slot_cues}
use Rattle.lanes.specs.declared.chunk.FieldChunk.{FieldChunk}
use Rattle.load_commands.specs.LoadList.{load_cue, load_list}
use Rattle.load_commands.proofs.SlotRoomLemmas.{HasSlotsBehind, IsWithin, two_each}
use Rattle.load_commands.proofs.UnitCountLemmas.{units_few}

-- captions in slots, at 29.97 frames a second
abbrev captions : ℕ → ℕ → List Cue
captions a n = map (timed_in_slots EveryFrame) (map load_cue (range_with_len a n))

-- a cue that is shown and hidden 60 slots after a multiple of 90
record IsOnBeat (cue : Cue) : Type 0 where
  show : cue.show % 90 ≡ 60
  hide : IfSome cue.hide (λ hide. hide % 90 ≡ 60)

abbrev AreOnBeat : List Event → Type 0
AreOnBeat events = AllByRecursion (λ (event : Event). event.slot % 90 ≡ 60) events

beat_append : (xs ys : List Event) → AreOnBeat xs → AreOnBeat ys → AreOnBeat (xs ++ ys)
beat_append [] ys first second = second
beat_append (x ∷ xs) ys first second = (first.0, beat_append xs ys first.1 second)

show_beat : (in_field : FieldNumber) (cue : Cue) → cue.show % 90 ≡ 60 → AreOnBeat (show_events in_field cue)
show_beat in_field cue beat = at (is_pop cue.kind) refl
  where
    at : (b : Bool) → is_pop cue.kind ≡ b → AreOnBeat (show_events in_field cue)
    at true is = rw is (beat, tt)
    at false is = rw is tt

hide_beat : (in_field : FieldNumber) (hide : Option ℕ) (later : List Cue) → IfSome hide (λ frame. frame % 90 ≡ 60) → AreOnBeat (hide_events in_field hide later)
hide_beat in_field None later beat = tt
hide_beat in_field (Some hide) later beat = at (is_replaced_at hide later) refl
  where
    at : (b : Bool) → is_replaced_at hide later ≡ b → AreOnBeat (hide_events in_field (Some hide) later)
    at true is = rw is tt
    at false is = rw is (beat, tt)

events_beat : (in_field : FieldNumber) (cues : List Cue) → AllByRecursion IsOnBeat cues → AreOnBeat (cue_events in_field cues)
events_beat in_field [] beat = tt
events_beat in_field (cue ∷ later) beat =
    beat_append (show_events in_field cue ++ hide_events in_field cue.hide later) (cue_events in_field later)
    (beat_append (show_events in_field cue) (hide_events in_field cue.hide later) (show_beat in_field cue beat.0.show)
    (hide_beat in_field cue.hide later beat.0.hide))
    (events_beat in_field later beat.1)

-- the slots up to 58 after a multiple of 90 are free
beat_free : (events : List Event) (n : ℕ) → AreOnBeat events → n % 90 < 58 → IsFree events n
beat_free [] n beat low = tt
beat_free (event ∷ events) n beat low =
    let slot = beat.0 in (λ same. omega (arith, slot, low, same), λ same. omega (arith, slot, low, same), beat_free events n beat.1 low)

on_beat : (channel : Chan) (a n : ℕ) → AllByRecursion IsOnBeat (cues_on channel (captions a n))
on_beat channel a zero = tt
on_beat channel a (suc n) = at (is_on channel (load_cue a).kind) refl (on_beat channel (a + 1) n)
  where
    at : (b : Bool) → is_on channel (load_cue a).kind ≡ b → AllByRecursion IsOnBeat (cues_on channel (captions (a + 1) n))
        → AllByRecursion IsOnBeat (cues_on channel (captions a (suc n)))
    at true is rest = rw is (record { show = omega arith; hide = omega arith }, rest)
    at false is rest = rw is rest

-- a unit of a caption
abbrev chunk_of : ℕ → ℕ → CodeUnit → FieldChunk
chunk_of number a unit = record { unit = unit; load = 90 * a; until = 90 * a + 60; cue = number }

-- the units of a caption may stand from its LOAD on
chunks_within : (number a : ℕ) (units : List CodeUnit)
    → AllByRecursion (IsWithin (90 * a) (90 * a + 58)) (map (chunk_of number a) units)
chunks_within number a [] = tt
chunks_within number a (unit ∷ units) = (record { load = omega arith; until = omega arith }, chunks_within number a units)

-- the slots of a caption's units
low_slot : (a n : ℕ) → 90 * a ≤ n → n < 90 * a + 58 → n % 90 < 58
low_slot a n low high = omega arith

module _ (channel : Chan) (events : List Event) (beat : AreOnBeat events) where
  captions_placed : (number a n : ℕ) (before : List (FieldChunk × ℕ)) → end_of before ≤ 90 * a → HasSlotsBehind events before (channel_chunks_from channel number (captions a n))
  captions_placed number a zero before behind = ([], tt)
  captions_placed number a (suc n) before behind =
      at (is_on channel (load_cue a).kind) refl (λ after end. captions_placed (suc number) (a + 1) n after end)
    where
      at : (b : Bool) → is_on channel (load_cue a).kind ≡ b
          → ((after : List (FieldChunk × ℕ)) → end_of after ≤ 90 * (a + 1) → HasSlotsBehind events after (channel_chunks_from channel (suc number) (captions (a + 1) n)))
          → HasSlotsBehind events before (channel_chunks_from channel number (captions a (suc n)))
      at false is rest = rw is (rest before (omega arith))
      at true is rest =
          let few = units_few a (a % 3) in
          let same = length-map (units_of (load_cue a)) (chunk_of number a) in
          rw is (two_each events (90 * a) (90 * a + 58) (90 * a) (field_cue_chunks number (load_cue a)) (channel_chunks_from channel (suc number) (captions (a + 1) n)) before
          behind (omega arith) (omega (arith, few, same)) (chunks_within number a (units_of (load_cue a)))
          (λ slot low high. beat_free events slot beat (low_slot a slot low high)) (λ after end. rest after (omega arith)))

-- the lane of a channel
pub channel_placed : (count : ℕ) (channel : Chan)
    → HasSlotsBehind (channel_events channel (slot_cues (load_list count) channel)) [] (channel_chunks channel (slot_cues (load_list count) channel))
channel_placed count channel =
    captions_placed channel (channel_events channel (slot_cues (load_list count) channel))
    (events_beat (field_of_channel channel) (cues_on channel (captions 0 count)) (on_beat channel 0 count)) 1 0 count [] (omega arith)
