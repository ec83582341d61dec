-- What the lists of a field send: pairs of bytes, all within the list.
use Rattle.std.proofs.Common.{◌≡◌, ℕ, suc, ◌+◌, ◌≤◌, ◌==◌, eqb, Bool, true, false, List, [], ◌∷◌, Option, Some, None, All, refl, sym, ap, ◌∙◌, subst, arith}
use Rattle.std.specs.Prelude.{⊤}
use Rattle.std.specs.Option.{option_map, option_or}
use Rattle.std.proofs.lemmas.Bool.Decides.{nat_tests}
use Rattle.std.proofs.lemmas.List.Elements.{All-cons, All-head, All-nil, All-tail}
use Rattle.line21_codes.specs.declared.channels.Chan.{Chan}
use Rattle.line21_codes.specs.declared.channels.DataChannel.TheVariants.{One}
use Rattle.line21_codes.specs.declared.channels.FieldNumber.{FieldNumber}
use Rattle.line21_codes.specs.declared.codes.Code.{Code}
use Rattle.line21_codes.specs.declared.codes.Code.TheVariants.{Null, Text, Xds, Control}
use Rattle.line21_codes.specs.Channels.{field_of_channel}
use Rattle.line21_codes.specs.Reading.{code_of}
use Rattle.line21_codes.specs.Writable.{IsWritable}
use Rattle.line21_codes.proofs.CodeLemmas.{written-a, written-b}
use Rattle.cue_lists.specs.Listing.{IsFormed, Listing}
use Rattle.cue_lists.specs.Rules.{IsRuled}
use Rattle.line21_author.specs.CueEvents.{channel_events}
use Rattle.line21_author.specs.declared.event.Event.{Event}
use Rattle.line21_author.specs.declared.unit.Unit.{Unit}
use Rattle.frame_carrier.specs.Carried.{IsBytePair}
use Rattle.lanes.specs.declared.chunk.FieldChunk.{FieldChunk}
use Rattle.lanes.specs.ChannelLane.{channel_chunks}
use Rattle.lanes.specs.LaneDoubling.{AreEnded}
use Rattle.lanes.specs.LaneEvents.{AreOver, event_at}
use Rattle.lanes.specs.LaneTimeline.{lane_timeline, stands}
use Rattle.frame_carrier.specs.SlotLists.{slot_cues, slots_in_list}
use Rattle.lanes.proofs.DoublingLemmas.{at_event, at_unit}
use Rattle.frame_carrier.proofs.ListDoublingLemmas.{channel_ended}
use Rattle.frame_carrier.proofs.SlotLemmas.{slot_cues_formed, slot_sequence}
use Rattle.dual_fields.proofs.CaptionedLemmas.{channel_all}
use Rattle.dual_fields.specs.declared.part.Part.{Part}
use Rattle.dual_fields.specs.ChannelParts.{channel_parts}
use Rattle.dual_fields.specs.Lanes.{AreCues, IsBehind, part_chunks}
use Rattle.dual_fields.specs.Seen.{as_second, second_part, second_parts, second_timeline, second_unit}
use Rattle.dual_fields.specs.Together.{AreOfChannel, IsListed}
use Rattle.dual_fields.proofs.ListedLemmas.{channel_listed, channel_chunks_from_back}
use Rattle.dual_plans.proofs.SentLemmas.{IsSendable, IsSent}

abbrev OfBytes : FieldChunk → Type 0
OfBytes chunk = IsBytePair chunk.unit.pair

abbrev EndsIn : ℕ → FieldChunk → Type 0
EndsIn count chunk = chunk.until ≤ count

-- an event ends where all are over
event_ended : (count : ℕ) (es : List Event) (n : ℕ) (unit : Unit) → AreOver count es → event_at es n ≡ Some unit → n + 2 ≤ count
event_ended count [] n unit over is = cc
event_ended count (e ∷ es) n unit over is = by_test (eqb n e.slot) refl (λ rest. event_ended count es n unit over.1 rest)
  where
    by_test : (b : Bool) → eqb n e.slot ≡ b → (event_at es n ≡ Some unit → n + 2 ≤ count) → n + 2 ≤ count
    by_test true test rest = let here : n ≡ e.slot = grind (arith, nat_tests) in omega (arith, over.0)
    by_test false test rest = rest (sym (at_event e es n false test) ∙ is)

-- what holds of a unit wherever it stands holds of each
each_unit : (k : ℕ) (chunks : List FieldChunk) → ((fs : List ℕ) (unit : Unit) → stands chunks fs k ≡ Some unit → IsBytePair unit.pair) → All OfBytes chunks
each_unit k [] each = All-nil OfBytes
each_unit k (chunk ∷ chunks) each =
    let here : (k == k) ≡ true = grind (arith, nat_tests) in
    let other : (k == suc k) ≡ false = grind (arith, nat_tests) in
    All-cons OfBytes chunk chunks (each (k ∷ []) chunk.unit (at_unit chunk chunks k [] k true here))
    (each_unit k chunks (λ fs unit is. each (suc k ∷ fs) unit (at_unit chunk chunks (suc k) fs k false other ∙ is)))

-- the first unit of the cue before
abbrev HasBytes : Option Part → Type 0
HasBytes None = ⊤
HasBytes (Some former) = IsBytePair former.first.pair

-- a cue's first unit comes again as it was
first_bytes : (later : Bool) (former : Option Part) (part : Part) → IsBehind later former part → OfBytes part.chunk → HasBytes former → IsBytePair part.first.pair
first_bytes false former part behind own has = subst (λ (u : Unit). IsBytePair u.pair) (sym behind.first) own
first_bytes true None part behind own has = absurd behind
first_bytes true (Some former) part behind own has = subst (λ (u : Unit). IsBytePair u.pair) (sym behind.first) has

first_sendable : (count : ℕ) (former : Option Part) (parts : List Part) → AreCues former parts → HasBytes former → All OfBytes (part_chunks parts)
    → All (EndsIn count) (part_chunks parts) → All (IsSendable count) parts
first_sendable count former [] cues has bytes ends = All-nil (IsSendable count)
first_sendable count former (part ∷ parts) cues has bytes ends =
    let own : OfBytes part.chunk = All-head OfBytes part.chunk (part_chunks parts) bytes in
    let first : IsBytePair part.first.pair = first_bytes part.later former part cues.0 own has in
    All-cons (IsSendable count) part parts
    (record { unit = own; first = first; until = All-head (EndsIn count) part.chunk (part_chunks parts) ends })
    (first_sendable count (Some part) parts cues.1 first (All-tail OfBytes part.chunk (part_chunks parts) bytes)
    (All-tail (EndsIn count) part.chunk (part_chunks parts) ends))

-- a code that can be written can be so for data channel 2
coded : (code : Code) → IsWritable code → IsWritable (as_second code)
coded Null writable = writable
coded (Text first second) writable = writable
coded (Xds first second) writable = writable
coded (Control second control) writable = writable

module _ (f : FieldNumber) where
  second_bytes : (unit : Unit) → IsWritable (code_of unit.pair) → IsBytePair (second_unit f unit).pair
  second_bytes unit writable = record {
    a = written-a f (as_second (code_of unit.pair)) (coded (code_of unit.pair) writable);
    b = written-b f (as_second (code_of unit.pair)) (coded (code_of unit.pair) writable);
  }

  second_sendable : (count : ℕ) (parts : List Part) → AreOfChannel One parts → All (EndsIn count) (part_chunks parts) → All (IsSendable count) (second_parts f parts)
  second_sendable count [] own ends = All-nil (IsSendable count)
  second_sendable count (part ∷ parts) own ends =
      All-cons (IsSendable count) (second_part f part) (second_parts f parts)
      (record {
        unit = second_bytes part.chunk.unit own.0.writable;
        first = second_bytes part.first own.1.writable;
        until = All-head (EndsIn count) part.chunk (part_chunks parts) ends;
      })
      (second_sendable count parts own.2 (All-tail (EndsIn count) part.chunk (part_chunks parts) ends))

-- the channel of a list that keeps the rules
module _ (list : Listing) (channel : Chan) (formed : IsFormed list) (ruled : IsRuled list) where
  pub listed : IsListed One (event_at (channel_events channel (slot_cues list channel))) (channel_parts channel (slot_cues list channel))
  listed =
      channel_listed channel (slots_in_list list channel) (slot_cues list channel) (slot_cues_formed list formed channel) (slot_sequence list ruled channel)

  ended : AreEnded (channel_events channel (slot_cues list channel)) (channel_chunks channel (slot_cues list channel)) (slots_in_list list channel)
  ended = channel_ended list channel formed ruled

  begun_bytes : (placed : List ℕ) (n : ℕ) (unit : Unit)
      → lane_timeline (event_at (channel_events channel (slot_cues list channel))) (channel_chunks channel (slot_cues list channel)) placed n ≡ Some unit → IsBytePair unit.pair
  begun_bytes placed =
      channel_all IsBytePair (λ f code writable first. record { a = written-a f code writable; b = written-b f code writable })
      (slot_cues list channel) channel placed (slot_cues_formed list formed channel)

  -- an event
  pub event_sent : (n : ℕ) (unit : Unit) → event_at (channel_events channel (slot_cues list channel)) n ≡ Some unit → IsSent (slots_in_list list channel) n unit
  event_sent n unit is = record {
    bytes = begun_bytes [] n unit (ap (λ o. option_or o (stands (channel_chunks channel (slot_cues list channel)) [] n)) is);
    ended = λ doubled. event_ended (slots_in_list list channel) (channel_events channel (slot_cues list channel)) n unit ended.events_are is;
  }

  -- after the list no event begins
  no_event : (o : Option Unit) → event_at (channel_events channel (slot_cues list channel)) (slots_in_list list channel) ≡ o
      → event_at (channel_events channel (slot_cues list channel)) (slots_in_list list channel) ≡ None
  no_event None is = is
  no_event (Some unit) is =
      absurd (omega (arith, event_ended (slots_in_list list channel) (channel_events channel (slot_cues list channel)) (slots_in_list list channel) unit ended.events_are is))

  chunks_bytes : All OfBytes (channel_chunks channel (slot_cues list channel))
  chunks_bytes =
      each_unit (slots_in_list list channel) (channel_chunks channel (slot_cues list channel))
      (λ fs unit is. begun_bytes fs (slots_in_list list channel) unit
      (ap (λ o. option_or o (stands (channel_chunks channel (slot_cues list channel)) fs (slots_in_list list channel)))
      (no_event (event_at (channel_events channel (slot_cues list channel)) (slots_in_list list channel)) refl) ∙ is))

  same_chunks : channel_chunks channel (slot_cues list channel) ≡ part_chunks (channel_parts channel (slot_cues list channel))
  same_chunks = sym (channel_chunks_from_back channel 1 (slot_cues list channel))

  parts_end : All (EndsIn (slots_in_list list channel)) (part_chunks (channel_parts channel (slot_cues list channel)))
  parts_end = subst (All (EndsIn (slots_in_list list channel))) same_chunks ended.chunks_are

  pub firsts_sendable : All (IsSendable (slots_in_list list channel)) (channel_parts channel (slot_cues list channel))
  firsts_sendable =
      first_sendable (slots_in_list list channel) None (channel_parts channel (slot_cues list channel)) listed.cues tt
      (subst (All OfBytes) same_chunks chunks_bytes) parts_end

  -- with the codes for data channel 2
  pub seconds_sendable : All (IsSendable (slots_in_list list channel)) (second_parts (field_of_channel channel) (channel_parts channel (slot_cues list channel)))
  seconds_sendable =
      second_sendable (field_of_channel channel) (slots_in_list list channel) (channel_parts channel (slot_cues list channel)) listed.parts_own parts_end

  pub second_event_sent : (n : ℕ) (unit : Unit)
      → second_timeline (field_of_channel channel) (event_at (channel_events channel (slot_cues list channel))) n ≡ Some unit
      → IsSent (slots_in_list list channel) n unit
  second_event_sent n unit is = by_event (event_at (channel_events channel (slot_cues list channel)) n) refl is
    where
      by_event : (o : Option Unit) → event_at (channel_events channel (slot_cues list channel)) n ≡ o
          → option_map (second_unit (field_of_channel channel)) o ≡ Some unit → IsSent (slots_in_list list channel) n unit
      by_event None at is = cc
      by_event (Some event) at is =
          let same : second_unit (field_of_channel channel) event ≡ unit = cc in
          record {
            bytes = subst (λ (u : Unit). IsBytePair u.pair) same
                (second_bytes (field_of_channel channel) event (listed.events_own n event at).writable);
            ended = λ doubled. event_ended (slots_in_list list channel) (channel_events channel (slot_cues list channel)) n event ended.events_are at;
          }
