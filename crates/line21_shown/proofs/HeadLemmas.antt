-- The first of the cues that a channel's timeline continues with: its units, and what begins before and after its SHOW.
use Rattle.std.proofs.Common.{◌≡◌, ℕ, ◌+◌, ◌*◌, ◌<◌, ◌≤◌, List, [], ◌∷◌, ◌++◌, map, Option, Some, None, All, refl, sym, ap, ◌∙◌, subst, arith, append_assoc}
use Rattle.std.specs.Prelude.{IfSome, MatchOption}
use Rattle.std.specs.Option.{option_or}
use Rattle.std.proofs.lemmas.List.Elements.{All-head, All-tail}
use Rattle.line21_codes.specs.declared.channels.FieldNumber.{FieldNumber}
use Rattle.line21_codes.specs.declared.codes.Code.{Code}
use Rattle.line21_codes.specs.Reading.{code_of}
use Rattle.line21_codes.specs.Writable.{IsWritable}
use Rattle.line21_codes.proofs.CodeLemmas.{written-code_of}
use Rattle.cue_lists.specs.Cues.{IsCueFormed}
use Rattle.cue_lists.specs.declared.cue.Cue.{Cue}
use Rattle.frame_scheduler.specs.Channels.{field_of_kind}
use Rattle.frame_scheduler.specs.CueCodes.{cue_codes}
use Rattle.frame_scheduler.specs.CueEvents.{cue_events, hide_events, show_events}
use Rattle.frame_scheduler.specs.CueUnits.{unit_of}
use Rattle.frame_scheduler.specs.Event.{Event}
use Rattle.frame_scheduler.specs.Unit.{Unit}
use Rattle.frame_scheduler.proofs.CueCodesLemmas.{cue_codes_writable}
use Rattle.frame_scheduler.proofs.SlotSequenceLemmas.{AreInSlots, IsSoundInSlots}
use Rattle.frame_scheduler.specs.FieldChunk.{FieldChunk}
use Rattle.frame_scheduler.specs.ChannelLane.{field_cue_chunks}
use Rattle.cue_lists.specs.Rules.Sentences.{AreInSequence}
use Rattle.frame_scheduler.specs.LaneEvents.{IsFree, event_at}
use Rattle.frame_scheduler.specs.LaneTimeline.{stands}
use Rattle.cue_lists.specs.Rules.Sentences.{IsSound}
use Rattle.frame_scheduler.specs.Timeline.{Timeline, over}
use Rattle.line21_shown.proofs.LoadingLemmas.{erases, chunk_code, chunk_codes}
use Rattle.line21_shown.proofs.SuffixLemmas.{AreChunks, ArePlacedFrom, LoadFrom, cue_loads, cue_until, events_behind, loads_from, parts, placed_behind, raised, stands_high, stands_low, stands_parts}

-- the first of cues in sequence is sound
pub first_sound : (step frames : ℕ) (cue : Cue) (later : List Cue) → AreInSequence step frames (cue ∷ later) → IsSound step frames cue
first_sound step frames cue [] sequence = sequence
first_sound step frames cue (next ∷ later) sequence = sequence.0

-- those after it are in sequence
pub rest_in_sequence : (step frames : ℕ) (cue : Cue) (later : List Cue) → AreInSequence step frames (cue ∷ later) → AreInSequence step frames later
rest_in_sequence step frames cue [] sequence = tt
rest_in_sequence step frames cue (next ∷ later) sequence = sequence.2

-- cues in sequence, slots being frames
sound_in_slots : (slots : ℕ) (cue : Cue) → IsSound 1 slots cue → IsSoundInSlots slots cue
sound_in_slots slots cue sound = record {
  loaded = omega (arith, sound.loaded);
  hidden = sound.hidden;
  apart = sound.apart;
  stays = λ pop. stays cue.hide (sound.stays pop);
  ended = ended cue.hide sound.ended;
}
  where
    stays : (hide : Option ℕ) → IfSome hide (λ h. cue.show + 2 * 1 ≤ h) → IfSome hide (λ h. cue.show + 2 ≤ h)
    stays None below = tt
    stays (Some h) below = omega arith

    ended : (hide : Option ℕ) → MatchOption hide (cue.show < slots) (λ h. h + 1 + 1 ≤ slots) → MatchOption hide (cue.show < slots) (λ h. h + 2 ≤ slots)
    ended None over = over
    ended (Some h) over = omega arith

vacated_before : (hide : Option ℕ) (load show : ℕ) → load < show → IfSome hide (λ h. h ≤ load) → IfSome hide (λ h. h < show)
vacated_before None load show loaded low = tt
vacated_before (Some h) load show loaded low = omega arith

pub sequence_in_slots : (slots : ℕ) (cues : List Cue) → AreInSequence 1 slots cues → AreInSlots slots cues
sequence_in_slots slots [] sequence = tt
sequence_in_slots slots (cue ∷ []) sequence = sound_in_slots slots cue sequence
sequence_in_slots slots (cue ∷ (next ∷ later)) sequence =
    let loaded : next.load < next.show = (first_sound 1 slots next later sequence.2).loaded in (
      sound_in_slots slots cue sequence.0,
      record {
        link = sequence.1;
        later = omega (arith, sequence.1.loaded, loaded);
        vacated = λ plain. vacated_before cue.hide next.load next.show loaded (sequence.1.cleared plain);
      },
      sequence_in_slots slots (next ∷ later) sequence.2,
    )

-- they load after its SHOW
rest_loads : (frames : ℕ) (cue : Cue) (later : List Cue) → AreInSequence 1 frames (cue ∷ later) → LoadFrom cue.show later
rest_loads frames cue [] sequence = tt
rest_loads frames cue (next ∷ later) sequence = sequence.1.loaded

-- the units of a cue are read as its codes
codes_are : (in_field : FieldNumber) (number : ℕ) (cue : Cue) (codes : List Code) → All IsWritable codes
    → map chunk_code (map (λ (unit : Unit). record { unit = unit; load = cue.load; until = cue.show; cue = number }) (map (unit_of in_field) codes)) ≡ codes
codes_are in_field number cue [] writable = refl
codes_are in_field number cue (code ∷ codes) writable =
    let first : code_of (unit_of in_field code).pair ≡ code = written-code_of in_field code (All-head IsWritable code codes writable) in
    let rest = codes_are in_field number cue codes (All-tail IsWritable code codes writable) in
    rw (first, rest) refl

pub cue_codes_are : (number : ℕ) (cue : Cue) → IsCueFormed cue → chunk_codes (field_cue_chunks number cue) ≡ cue_codes cue
cue_codes_are number cue formed = codes_are (field_of_kind cue.kind) number cue (cue_codes cue) (cue_codes_writable cue formed)

-- what hides the former cue, and the events of these cues
abbrev pub events_on : FieldNumber → Option ℕ → List Cue → List Event
events_on in_field hide cues = hide_events in_field hide cues ++ cue_events in_field cues

-- the timeline goes on, from frame a on, with what hides the former cue and with these cues
pub record Continues (in_field : FieldNumber) (t : Timeline) (a : ℕ) (hide : Option ℕ) (cues : List Cue) : Type 0 where
  pub chunks : List FieldChunk
  pub frames : List ℕ
  pub are : AreChunks cues chunks
  pub placed : ArePlacedFrom (events_on in_field hide cues) a chunks frames
  pub same : (n : ℕ) → a ≤ n → t n ≡ over (event_at (events_on in_field hide cues)) (stands chunks frames) n

-- the first of these cues with its units, where those after it stand from frame z on
pub record Head (in_field : FieldNumber) (t : Timeline) (a z : ℕ) (hide : Option ℕ) (cue : Cue) (later : List Cue) : Type 0 where
  pub own : List FieldChunk
  pub behind : List FieldChunk
  pub front : List ℕ
  pub back : List ℕ
  pub are : AreChunks later behind
  pub codes : chunk_codes own ≡ cue_codes cue
  pub ends : All (λ (chunk : FieldChunk). chunk.until ≡ cue.show) own
  pub begins : All (λ (chunk : FieldChunk). cue.load ≤ chunk.load) own
  pub first : ArePlacedFrom (events_on in_field hide (cue ∷ later)) a own front
  pub rest : ArePlacedFrom (events_on in_field hide (cue ∷ later)) z behind back
  pub same : (n : ℕ) → a ≤ n
      → t n ≡ option_or (event_at (events_on in_field hide (cue ∷ later)) n) (option_or (stands own front n) (stands behind back n))

-- it is found, where a frame from SHOW on that is free is z or later
pub head : (in_field : FieldNumber) (t : Timeline) (frames a z : ℕ) (hide : Option ℕ) (cue : Cue) (later : List Cue) → IsCueFormed cue
    → AreInSequence 1 frames (cue ∷ later) → Continues in_field t a hide (cue ∷ later)
    → ((f : ℕ) → cue.show ≤ f → IsFree (events_on in_field hide (cue ∷ later)) f → z ≤ f)
    → Head in_field t a z hide cue later
head in_field t frames a z hide cue later formed sequence on from =
    let events = events_on in_field hide (cue ∷ later) in
    let own = field_cue_chunks on.are.0 cue in
    let behind = on.are.1 in
    let split = parts events a own behind on.frames (subst (λ ps. ArePlacedFrom events a ps on.frames) on.are.2 on.placed) in
    record {
      own = own;
      behind = behind;
      front = split.front;
      back = split.back;
      are = on.are.3;
      codes = cue_codes_are on.are.0 cue formed;
      ends = cue_until on.are.0 cue;
      begins = cue_loads cue.load on.are.0 cue (omega arith);
      first = split.first;
      rest = raised events a z (λ (chunk : FieldChunk). cue.show ≤ chunk.load) behind split.back
          (λ chunk f loads at free. from f (omega arith) free)
          (loads_from frames cue.show later behind (rest_in_sequence 1 frames cue later sequence) (rest_loads frames cue later sequence) on.are.3)
          split.rest;
      same = λ n above.
          on.same n above
          ∙ ap (option_or (event_at events n))
          (ap (λ ps. stands ps on.frames n) on.are.2 ∙ ap (λ fs. stands (own ++ behind) fs n) split.is
          ∙ stands_parts events a n own behind split.front split.back split.first);
    }

-- a unit, or else nothing
pub or_nothing : (u : Option Unit) → option_or u None ≡ u
or_nothing None = refl
or_nothing (Some unit) = refl

-- before SHOW its units begin beside what hides the former cue, where that is all there is of the events
pub loading : (in_field : FieldNumber) (t : Timeline) (a z : ℕ) (hide : Option ℕ) (cue : Cue) (later : List Cue) (h : Head in_field t a z hide cue later)
    → cue.show ≤ z → ((n : ℕ) → n < cue.show → event_at (events_on in_field hide (cue ∷ later)) n ≡ erases in_field hide n)
    → (n : ℕ) → a ≤ n → n < cue.show → t n ≡ over (erases in_field hide) (stands h.own h.front) n
loading in_field t a z hide cue later h up only n from below =
    let none : stands h.behind h.back n ≡ None = stands_low (events_on in_field hide (cue ∷ later)) z n h.behind h.back h.rest (omega arith) in
    h.same n from ∙ ap (λ u. option_or u (option_or (stands h.own h.front n) (stands h.behind h.back n))) (only n below)
    ∙ ap (option_or (erases in_field hide n)) (ap (option_or (stands h.own h.front n)) none ∙ or_nothing (stands h.own h.front n))

-- after SHOW the timeline continues with what hides the cue
pub continues_behind : (in_field : FieldNumber) (t : Timeline) (a z : ℕ) (hide : Option ℕ) (cue : Cue) (later : List Cue) → Head in_field t a z hide cue later
    → a ≤ z → cue.show ≤ z
    → ((n : ℕ) → z ≤ n → event_at (events_on in_field hide (cue ∷ later)) n ≡ event_at (events_behind in_field cue later) n)
    → Continues in_field t z cue.hide later
continues_behind in_field t a z hide cue later h up shown events_are =
    let events = events_on in_field hide (cue ∷ later) in
    record {
      chunks = h.behind;
      frames = h.back;
      are = h.are;
      placed = placed_behind (hide_events in_field hide (cue ∷ later) ++ show_events in_field cue) (events_behind in_field cue later) z h.behind h.back
          (subst (λ es. ArePlacedFrom es z h.behind h.back) split h.rest);
      same = λ n from.
          let none : stands h.own h.front n ≡ None = stands_high events a cue.show n h.own h.front h.first h.ends (omega arith) in
          h.same n (omega arith)
          ∙ ap (λ u. option_or u (option_or (stands h.own h.front n) (stands h.behind h.back n))) (events_are n from)
          ∙ ap (option_or (event_at (events_behind in_field cue later) n)) (ap (λ u. option_or u (stands h.behind h.back n)) none);
    }
  where
    split : events_on in_field hide (cue ∷ later)
        ≡ (hide_events in_field hide (cue ∷ later) ++ show_events in_field cue) ++ events_behind in_field cue later
    split =
        ap (λ (es : List Event). hide_events in_field hide (cue ∷ later) ++ es)
        (append_assoc (show_events in_field cue) (hide_events in_field cue.hide later) (cue_events in_field later))
        ∙ sym (append_assoc (hide_events in_field hide (cue ∷ later)) (show_events in_field cue) (events_behind in_field cue later))
