-- The units of a load's captions in windows have a placement: caption k's in the frames from 90 k on. Each delay is on from
-- 30 frames after a multiple of 90 up to 60 after it.
use Rattle.std.proofs.Common.{◌≡◌, ◌∙◌, ap, ℕ, zero, suc, ◌+◌, ◌*◌, ◌<◌, ◌≤◌, ◌%◌, ◌==◌, Bool, true, false, List, [], ◌∷◌, ◌++◌, length, map, refl, subst, arith, eqb-true}
use Rattle.std.specs.List.{AllByRecursion, cons_option, range_with_len}
use Rattle.std.proofs.lemmas.List.{length-map}
use Rattle.cc_base.specs.declared.rate.Rate.TheVariants.{F2997}
use Rattle.cue_lists.specs.declared.cue.Cue.{Cue}
use Rattle.dtvcc_author.specs.Captions.{caption_with, service_captions, window_caption}
use Rattle.dtvcc_author.specs.CueUnits.{window_cue_units}
use Rattle.dtvcc_author.specs.FrameEvents.{delay_end}
use Rattle.dtvcc_author.specs.declared.caption.Caption.{Caption}
use Rattle.dtvcc_author.proofs.LatestLemmas.{all_has}
use Rattle.lanes.specs.Placing.{HasPlacement}
use Rattle.lanes.specs.ServiceChunks.{chunk_of, service_chunks_from, service_cue_chunks}
use Rattle.lanes.specs.ServiceRoom.{frame_room}
use Rattle.lanes.specs.Chunks.{ServiceChunk}
use Rattle.lanes.proofs.DelayLemmas.{delay_is_of}
use Rattle.lanes.proofs.PlaceLemmas.{events_few}
use Rattle.cue_list_commands.specs.Planned.{captions_in, chunks_in, service_lane_of}
use Rattle.load_commands.proofs.FormedLemmas.{load_kind}
use Rattle.load_commands.specs.LoadList.{load_cue, load_list, load_window}
use Rattle.load_commands.proofs.FrameRoomLemmas.{AreBefore, before_later, HasFramesBehind, IsUndelayed, IsWithin, one_each}
use Rattle.load_commands.proofs.UnitCountLemmas.{turned, window_units_count, window_units_small}

abbrev cues : ℕ → ℕ → List Cue
cues a n = map load_cue (range_with_len a n)

-- a caption whose delay lasts 30 frames, from 30 after a multiple of 90 on
record IsOnBeat (c : Caption) : Type 0 where
  starts : c.starts % 90 ≡ 30
  show : c.show ≡ c.starts + 30

beat_more : (service k turn : ℕ) (cs : List Caption) → AllByRecursion IsOnBeat cs
    → AllByRecursion IsOnBeat (cons_option (caption_with F2997 service (load_kind k turn) (turned k turn)) cs)
beat_more service k zero cs beat = beat
beat_more service k (suc zero) cs beat = at (1 == service) refl
  where
    at : (b : Bool) → (1 == service) ≡ b → AllByRecursion IsOnBeat (cons_option (caption_with F2997 service (load_kind k 1) (turned k 1)) cs)
    at true is = rw is (record { starts = omega arith; show = omega arith }, beat)
    at false is = rw is beat
beat_more service k (suc (suc turn)) cs beat = beat

on_beat : (service a n : ℕ) → AllByRecursion IsOnBeat (service_captions F2997 service (cues a n))
on_beat service a zero = tt
on_beat service a (suc n) = beat_more service a (a % 3) (service_captions F2997 service (cues (a + 1) n)) (on_beat service (a + 1) n)

-- no delay is on in the first 30 frames after a multiple of 90
beat_undelayed : (cs : List Caption) (frame : ℕ) → AllByRecursion IsOnBeat cs → frame % 90 < 30 → IsUndelayed (delay_end cs) frame
beat_undelayed cs frame beat low start end is from to =
    let delayed = delay_is_of cs start end is in
    let one = all_has IsOnBeat cs delayed.caption beat delayed.has in
    let starts = one.starts in
    let show = one.show in
    let first = delayed.starts in
    let last = delayed.ends in
    omega (arith, starts, show, first, last)

low_frame : (a frame : ℕ) → 90 * a ≤ frame → frame < 90 * a + 30 → frame % 90 < 30
low_frame a frame low high = omega arith

roomy : (cs : List Caption) (frame : ℕ) → 7 ≤ frame_room 31 cs frame
roomy cs frame = let few = events_few frame cs in omega (arith, few)

-- the units of a caption may stand from its LOAD on
chunks_within : (number a : ℕ) (units : List (List ℕ)) → AllByRecursion (λ (unit : List ℕ). length unit ≤ 7) units
    → AllByRecursion (IsWithin (90 * a) (90 * a + 30)) (map (chunk_of number (window_caption F2997 (load_window a) (turned a 1))) units)
chunks_within number a [] small = tt
chunks_within number a (unit ∷ units) small =
    (record { load = omega arith; until = omega arith; size = small.0 }, chunks_within number a units small.1)

module _ (cs : List Caption) (beat : AllByRecursion IsOnBeat cs) where
  abbrev HasFrames : List (ServiceChunk × ℕ) → List ServiceChunk → Type 0
  HasFrames before chunks = HasFramesBehind (frame_room 31 cs) (delay_end cs) before chunks

  -- a caption of a load, and units after its own
  cue_placed : (number a turn : ℕ) (later : List ServiceChunk) (before : List (ServiceChunk × ℕ)) → AreBefore (90 * a) before
      → ((after : List (ServiceChunk × ℕ)) → AreBefore (90 * (a + 1)) after → HasFrames after later)
      → HasFrames before (service_cue_chunks F2997 1 number (turned a turn) ++ later)
  cue_placed number a zero later before behind rest = rest before (before_later (90 * a) (90 * (a + 1)) before (omega arith) behind)
  cue_placed number a (suc zero) later before behind rest =
      let units = window_cue_units (turned a 1) in
      let count = window_units_count a in
      let same = length-map units (chunk_of number (window_caption F2997 (load_window a) (turned a 1))) in
      one_each (frame_room 31 cs) (delay_end cs) (90 * a) (90 * a + 30) (90 * a) (service_cue_chunks F2997 1 number (turned a 1)) later before behind (omega arith)
      (omega (arith, count, same)) (chunks_within number a units (window_units_small a)) (roomy cs)
      (λ frame low high. beat_undelayed cs frame beat (low_frame a frame low high))
      (λ after end. rest after (before_later (90 * a + 30) (90 * (a + 1)) after (omega arith) end))
  cue_placed number a (suc (suc turn)) later before behind rest = rest before (before_later (90 * a) (90 * (a + 1)) before (omega arith) behind)

  cues_placed : (number a n : ℕ) (before : List (ServiceChunk × ℕ)) → AreBefore (90 * a) before → HasFrames before (service_chunks_from F2997 1 number (cues a n))
  cues_placed number a zero before behind = ([], tt)
  cues_placed number a (suc n) before behind =
      cue_placed number a (a % 3) (service_chunks_from F2997 1 (suc number) (cues (a + 1) n)) before behind (λ after end. cues_placed (suc number) (a + 1) n after end)

-- another service has no captions
none_more : (service number k turn : ℕ) → (1 == service) ≡ false → service_cue_chunks F2997 service number (turned k turn) ≡ []
none_more service number k zero other = refl
none_more service number k (suc zero) other = rw other refl
none_more service number k (suc (suc turn)) other = refl

no_chunks : (service number a n : ℕ) → (1 == service) ≡ false → service_chunks_from F2997 service number (cues a n) ≡ []
no_chunks service number a zero other = refl
no_chunks service number a (suc n) other =
    ap (λ (first : List ServiceChunk). first ++ service_chunks_from F2997 service (suc number) (cues (a + 1) n)) (none_more service number a (a % 3) other)
    ∙ no_chunks service (suc number) (a + 1) n other

-- the lane of a service
pub service_placed : (count service : ℕ) → HasPlacement (service_lane_of (load_list count) service) (chunks_in (load_list count) service)
service_placed count service = at (1 == service) refl
  where
    first : HasPlacement (service_lane_of (load_list count) 1) (chunks_in (load_list count) 1)
    first = cues_placed (captions_in (load_list count) 1) (on_beat 1 0 count) 1 0 count [] tt

    at : (b : Bool) → (1 == service) ≡ b → HasPlacement (service_lane_of (load_list count) service) (chunks_in (load_list count) service)
    at true is = subst (λ s. HasPlacement (service_lane_of (load_list count) s) (chunks_in (load_list count) s)) (eqb-true 1 service is) first
    at false is = rw (no_chunks service 1 0 count is) ([], tt)
