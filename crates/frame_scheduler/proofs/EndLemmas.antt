-- From the end of a list on its frames carry nothing: what a channel sends has ended, and no event and no unit of a service stands there.
use Rattle.std.proofs.Common.{◌≡◌, ◌∙◌, ◌≤◌, ◌++◌, ◌&&◌, ◌==◌, ℕ, suc, List, [], ◌∷◌, ap, map, not, refl, sym, arith, true, false, Bool, Option, Some, None, All, find, ⊎_elim}
use Rattle.std.specs.Prelude.{if◌then◌else◌, unwrap_or}
use Rattle.std.specs.Option.{option_map, option_or}
use Rattle.std.specs.List.{cons_option, flat_map, list_any, zip}
use Rattle.std.proofs.lemmas.Bool.Decides.{nat_tests}
use Rattle.std.proofs.lemmas.List.Elements.{All-append, All-cons, All-contains, All-head, All-nil, All-tail, All-weaker}
use Rattle.cc_base.specs.declared.rate.Rate.{Rate}
use Rattle.cue_lists.specs.Listing.{IsFormed, Listing}
use Rattle.cue_lists.specs.Rules.{IsRuled}
use Rattle.cue_lists.specs.declared.cue.Cue.{Cue}
use Rattle.cue_lists.specs.declared.lane.Lane.TheVariants.{Channel, Service}
use Rattle.dtvcc_author.specs.Captions.{caption_of, service_captions}
use Rattle.dtvcc_author.specs.CueUnits.{window_cue_units}
use Rattle.dtvcc_author.specs.FrameEvents.{event_bytes, is_delayed_at, is_hidden_at, is_shown_at}
use Rattle.dtvcc_author.specs.Kept.{AreKept, IsSoundCaption}
use Rattle.dtvcc_author.specs.declared.caption.Caption.{Caption}
use Rattle.lanes.specs.CueEvents.{channel_events}
use Rattle.lanes.specs.Event.{Event}
use Rattle.lanes.specs.Unit.{Unit}
use Rattle.line21_codes.specs.NullPairs.{null_pair}
use Rattle.line21_codes.specs.declared.channels.Chan.{Chan}
use Rattle.line21_codes.specs.declared.channels.Chan.TheVariants.{Cc1, Cc3}
use Rattle.line21_codes.specs.declared.pairs.Pair.{Pair}
use Rattle.cue_lists.specs.Cadences.{cadence_of, has_slot_in, slot_from}
use Rattle.cue_lists.proofs.CadenceLemmas.{slots_rise}
use Rattle.lanes.specs.Placing.{IsPlaced}
use Rattle.lanes.proofs.CaptionsKept.{captions_kept}
use Rattle.lanes.specs.Chunks.{ServiceChunk}
use Rattle.lanes.specs.ServiceBytes.{loads_at}
use Rattle.lanes.specs.ServiceChunks.{chunk_of, chunks_with, service_chunks_from}
use Rattle.lanes.specs.ServiceRoom.{caption_lane}
use Rattle.frame_scheduler.specs.Blocks.{service_block}
use Rattle.lanes.specs.ChannelLane.{IsChannelPlaced, channel_chunks}
use Rattle.frame_scheduler.specs.End.{NothingBehindTheEnd, silent_pair}
use Rattle.lanes.specs.FieldLane.{field_lane}
use Rattle.lanes.specs.LaneDoubling.{AreEnded}
use Rattle.lanes.specs.LaneEvents.{event_at}
use Rattle.lanes.specs.LaneTimeline.{lane_timeline, stands}
use Rattle.frame_scheduler.specs.Planned.{captions_in, channel_pair, chunks_in, frame_blocks, service_bytes, service_lane_of, services, share_in}
use Rattle.frame_scheduler.specs.SlotLists.{slot_cues, slots_in_list}
use Rattle.lanes.specs.Timeline.{slot}
use Rattle.frame_scheduler.specs.declared.frames.FrameBytes.{FrameBytes}
use Rattle.lanes.specs.declared.chunk.FieldChunk.{FieldChunk}
use Rattle.lanes.proofs.DoublingLemmas.{free_none, lane_ended, over_cases, unit_begins}
use Rattle.lanes.proofs.EventLemmas.{free_over, over_later, some_slot}
use Rattle.frame_scheduler.proofs.ListDoublingLemmas.{channel_ended}

-- what has ended by a slot has ended by each later one
ended_later : (events : List Event) (chunks : List FieldChunk) (m n : ℕ) → m ≤ n → AreEnded events chunks m → AreEnded events chunks n
ended_later events chunks m n most ended = record {
  events_are = over_later m n events most ended.events_are;
  chunks_are = All-weaker (λ (chunk : FieldChunk). chunk.until ≤ m) (λ (chunk : FieldChunk). chunk.until ≤ n) (λ chunk until. omega (arith, until, most)) chunks ended.chunks_are;
}

-- nothing begins at a slot by which all has ended
nothing_begins : (events : List Event) (chunks : List FieldChunk) (fs : List ℕ) (n : ℕ) → AreEnded events chunks n → IsPlaced (field_lane events) [] chunks fs
    → lane_timeline (event_at events) chunks fs n ≡ None
nothing_begins events chunks fs n ended placed = go (lane_timeline (event_at events) chunks fs n) refl
  where
    no_event : event_at events n ≡ None
    no_event = free_none events n (free_over n n events ended.events_are (omega arith))

    go : (begun : Option Unit) → lane_timeline (event_at events) chunks fs n ≡ begun → lane_timeline (event_at events) chunks fs n ≡ None
    go None is = is
    go (Some u) is =
        absurd (⊎_elim
        (λ (a : event_at events n ≡ Some u). let f : Some u ≡ None = sym a ∙ no_event in cc)
        (λ (w : (event_at events n ≡ None) × (stands chunks fs n ≡ Some u)).
        let b = (unit_begins events [] chunks fs n u placed w.1).0 in
        let until : b.chunk.until ≤ n = All-contains (λ chunk. chunk.until ≤ n) chunks b.chunk ended.chunks_are b.among in
        omega (arith, b.allowed.ended, until, some_slot n b.chunk))
        (over_cases events chunks fs n u is))

-- so it has the null pair
slot_silent : (events : List Event) (chunks : List FieldChunk) (fs : List ℕ) (n : ℕ) → AreEnded events chunks n → IsPlaced (field_lane events) [] chunks fs
    → slot (lane_timeline (event_at events) chunks fs) n ≡ null_pair
slot_silent events chunks fs n ended placed =
    ap (λ due. unwrap_or (option_or due (option_map (λ (unit : Unit). unit.pair) (lane_timeline (event_at events) chunks fs n))) null_pair)
    (lane_ended events chunks fs n ended placed)
    ∙ ap (λ begun. unwrap_or (option_or None (option_map (λ (unit : Unit). unit.pair) begun)) null_pair) (nothing_begins events chunks fs n ended placed)

-- and so has each slot of a channel in the frames from the list's end on
channel_silent : (list : Listing) (channel : Chan) (slots : List ℕ) (frame : ℕ) → IsFormed list → IsRuled list
    → IsChannelPlaced channel (slot_cues list channel) slots → list.frames ≤ frame → channel_pair list channel slots frame ≡ silent_pair list.rate channel frame
channel_silent list channel slots frame formed ruled earliest past = at (has_slot_in (cadence_of list.rate channel) frame)
  where
    silent : slot (lane_timeline (event_at (channel_events channel (slot_cues list channel))) (channel_chunks channel (slot_cues list channel)) slots)
        (slot_from (cadence_of list.rate channel) frame) ≡ null_pair
    silent =
        let events = channel_events channel (slot_cues list channel) in
        let chunks = channel_chunks channel (slot_cues list channel) in
        let n = slot_from (cadence_of list.rate channel) frame in
        slot_silent events chunks slots n
        (ended_later events chunks (slots_in_list list channel) n (slots_rise (cadence_of list.rate channel) list.frames frame past) (channel_ended list channel formed ruled))
        earliest.placed

    at : (has : Bool)
        → option_map (slot (lane_timeline (event_at (channel_events channel (slot_cues list channel))) (channel_chunks channel (slot_cues list channel)) slots))
        (if has then Some (slot_from (cadence_of list.rate channel) frame) else None) ≡ (if has then Some null_pair else None)
    at true = ap Some silent
    at false = refl

and_false : (b : Bool) → (b && false) ≡ false
and_false true = refl
and_false false = refl

-- a test that no caption meets which keeps the rules
record MeetsNone (test : Caption → Bool) (cs : List Caption) : Type 0 where
  any : list_any test cs ≡ false
  first : find test cs ≡ None

meets_none : (rate : Rate) (end : ℕ) (test : Caption → Bool) → ((c : Caption) → IsSoundCaption rate end c → test c ≡ false)
    → (cs : List Caption) → AreKept rate end cs → MeetsNone test cs
meets_none rate end test fails [] kept = record { any = refl; first = refl }
meets_none rate end test fails (c ∷ cs) kept =
    let rest = meets_none rate end test fails cs kept.2 in
    let fails_here = fails c kept.0 in
    record { any = rw fails_here rest.any; first = rw fails_here rest.first }

-- no event stands in a frame from the end on
no_events : (rate : Rate) (end frame : ℕ) (cs : List Caption) → AreKept rate end cs → end ≤ frame → event_bytes frame cs ≡ []
no_events rate end frame cs kept past =
    let hidden = (meets_none rate end (is_hidden_at frame) (λ c sound. hides_before c sound) cs kept).any in
    let shown = (meets_none rate end (is_shown_at frame) (λ c sound. ap (λ b. (c.tenths == 0) && b) (starts_before c sound) ∙ and_false (c.tenths == 0)) cs kept).any in
    let delayed = (meets_none rate end (is_delayed_at frame) (λ c sound. ap (λ b. not (c.tenths == 0) && b) (starts_before c sound) ∙ and_false (not (c.tenths == 0))) cs kept).first in
    rw (hidden, shown, delayed) refl
  where
    hides_before : (c : Caption) → IsSoundCaption rate end c → (c.hide == frame) ≡ false
    hides_before c sound = let ended = sound.ended in grind (arith, nat_tests)

    starts_before : (c : Caption) → IsSoundCaption rate end c → (c.starts == frame) ≡ false
    starts_before c sound =
        let after = sound.after in
        let hidden = sound.hidden in
        let ended = sound.ended in
        grind (arith, nat_tests)

-- the units of a service have to stand before the end
chunks_ended : (rate : Rate) (service end number : ℕ) (cues : List Cue) → AreKept rate end (service_captions rate service cues)
    → All (λ (chunk : ServiceChunk). chunk.until ≤ end) (service_chunks_from rate service number cues)
chunks_ended rate service end number [] kept = All-nil (λ (chunk : ServiceChunk). chunk.until ≤ end)
chunks_ended rate service end number (cue ∷ cues) kept = at (caption_of rate service cue) (chunks_ended rate service end (suc number) cues) kept
  where
    at : (found : Option Caption) → (AreKept rate end (service_captions rate service cues) → All (λ (chunk : ServiceChunk). chunk.until ≤ end) (service_chunks_from rate service (suc number) cues))
        → AreKept rate end (cons_option found (service_captions rate service cues))
        → All (λ (chunk : ServiceChunk). chunk.until ≤ end) (chunks_with number found (window_cue_units cue) ++ service_chunks_from rate service (suc number) cues)
    at None rest kept = rest kept
    at (Some c) rest kept =
        let sound = kept.0 in
        let until : c.starts ≤ end = omega (arith, sound.after, sound.hidden, sound.ended) in
        All-append (λ (chunk : ServiceChunk). chunk.until ≤ end) (map (chunk_of number c) (window_cue_units cue)) (service_chunks_from rate service (suc number) cues)
        (of_caption c until (window_cue_units cue)) (rest kept.2)
      where
        of_caption : (c : Caption) → c.starts ≤ end → (units : List (List ℕ)) → All (λ (chunk : ServiceChunk). chunk.until ≤ end) (map (chunk_of number c) units)
        of_caption c until [] = All-nil (λ (chunk : ServiceChunk). chunk.until ≤ end)
        of_caption c until (unit ∷ units) =
            All-cons (λ (chunk : ServiceChunk). chunk.until ≤ end) (chunk_of number c unit) (map (chunk_of number c) units) until (of_caption c until units)

-- so none stands in a frame from there on
no_loads : (share : ℕ) (cs : List Caption) (before : List (ServiceChunk × ℕ)) (chunks : List ServiceChunk) (frames : List ℕ) (end frame : ℕ)
    → All (λ (chunk : ServiceChunk). chunk.until ≤ end) chunks → IsPlaced (caption_lane share cs) before chunks frames → end ≤ frame → loads_at (zip chunks frames) frame ≡ []
no_loads share cs before [] [] end frame all placed past = refl
no_loads share cs before [] (f ∷ fs) end frame all placed past = absurd placed
no_loads share cs before (chunk ∷ chunks) [] end frame all placed past = absurd placed
no_loads share cs before (chunk ∷ chunks) (f ∷ fs) end frame all placed past =
    let ended = placed.0.ended in
    let until : chunk.until ≤ end = All-head (λ (chunk : ServiceChunk). chunk.until ≤ end) chunk chunks all in
    let other : (f == frame) ≡ false = grind (arith, nat_tests) in
    rw other (no_loads share cs (before ++ (chunk, f) ∷ []) chunks fs end frame (All-tail (λ (chunk : ServiceChunk). chunk.until ≤ end) chunk chunks all) placed.1 past)

-- a service is sent nothing there
service_silent : (list : Listing) (service : ℕ) (frames : List ℕ) (frame : ℕ) → IsFormed list → IsRuled list
    → IsPlaced (service_lane_of list service) [] (chunks_in list service) frames → list.frames ≤ frame → service_bytes list service frames frame ≡ []
service_silent list service frames frame formed ruled placed past =
    let kept = captions_kept list service formed ruled in
    ap (λ bytes. bytes ++ loads_at (zip (chunks_in list service) frames) frame) (no_events list.rate list.frames frame (captions_in list service) kept past)
    ∙ no_loads (share_in list service) (captions_in list service) [] (chunks_in list service) frames list.frames frame
    (chunks_ended list.rate service list.frames 1 list.cues kept) placed past

-- what a frame carries
abbrev framed : Option Pair → Option Pair → List ℕ → FrameBytes
framed one two blocks = record { one = one; two = two; blocks = record { items = blocks } }

-- the frame is one without captions
pub nothing_behind : NothingBehindTheEnd
nothing_behind list placed formed ruled is frame past =
    let one = channel_silent list Cc1 (placed (Channel Cc1)) frame formed ruled (is (Channel Cc1)) past in
    let two = channel_silent list Cc3 (placed (Channel Cc3)) frame formed ruled (is (Channel Cc3)) past in
    ap (λ pair. framed pair (channel_pair list Cc3 (placed (Channel Cc3)) frame) (frame_blocks list placed frame)) one
    ∙ ap (λ pair. framed (silent_pair list.rate Cc1 frame) pair (frame_blocks list placed frame)) two
    ∙ ap (framed (silent_pair list.rate Cc1 frame) (silent_pair list.rate Cc3 frame)) (no_blocks services)
  where
    no_blocks : (numbers : List ℕ) → flat_map (λ service. service_block service (service_bytes list service (placed (Service service)) frame)) numbers ≡ []
    no_blocks [] = refl
    no_blocks (service ∷ numbers) =
        rw (service_silent list service (placed (Service service)) frame formed ruled (is (Service service)).placed past) (no_blocks numbers)
