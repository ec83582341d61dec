-- What begins on a channel of a placed list: captions in data channel 1, each control pair doubled.
use Rattle.std.proofs.Common.{◌≡◌, ℕ, suc, Bool, true, false, eqb, List, [], ◌∷◌, ◌++◌, map, Option, Some, None, All, zero, ◌<◌, refl, sym, ◌∙◌, subst, arith, ⊎_elim}
use Rattle.std.specs.Prelude.{IfSome, if◌then◌else◌}
use Rattle.std.specs.Option.{option_map}
use Rattle.std.specs.List.{flat_map}
use Rattle.std.proofs.lemmas.List.Elements.{All-append, All-cons, All-head, All-nil, All-tail}
use Rattle.line21_codes.specs.declared.channels.FieldNumber.{FieldNumber}
use Rattle.line21_codes.specs.declared.channels.Chan.{Chan}
use Rattle.line21_codes.specs.declared.codes.Code.{Code}
use Rattle.line21_codes.specs.declared.codes.Control.{Control}
use Rattle.line21_codes.specs.declared.codes.Control.TheVariants.{Cr, Edm, Enm, Eoc, Rcl, Rdc, Ru}
use Rattle.line21_codes.specs.declared.pairs.Pair.{Pair}
use Rattle.line21_codes.specs.Reading.{code_of}
use Rattle.line21_codes.specs.Writable.{IsWritable, IsWritableControl}
use Rattle.line21_codes.specs.Writing.{pair_of_code}
use Rattle.line21_codes.proofs.CodeLemmas.{written-a, written-b, written-code_of}
use Rattle.cue_lists.specs.Cues.{IsCueFormed}
use Rattle.cue_lists.specs.Listing.{IsFormed, Listing}
use Rattle.cue_lists.specs.Rules.{IsRuled}
use Rattle.cue_lists.specs.Rules.Lane.{is_pop}
use Rattle.cue_lists.specs.declared.cue.Cue.{Cue}
use Rattle.cue_lists.specs.declared.cue.Kind.{Kind}
use Rattle.cue_lists.specs.declared.cue.Kind.TheVariants as kind
use Rattle.line21_codes.specs.Channels.{field_of_channel}
use Rattle.line21_codes.specs.NullPairs.{null_pair}
use Rattle.frame_scheduler.specs.Channels.{cues_on, field_of_kind, is_on}
use Rattle.cue_lists.specs.Cadences.{cadence_of, slot_in}
use Rattle.frame_scheduler.specs.CueCodes.{cue_codes, opening_codes}
use Rattle.frame_scheduler.specs.CueEvents.{channel_events, control_event, cue_events, hide_events, is_replaced_at, show_events}
use Rattle.frame_scheduler.specs.CueUnits.{unit_of}
use Rattle.frame_scheduler.specs.FirstChannel.{first_channel}
use Rattle.frame_scheduler.specs.RunCodes.{run_codes}
use Rattle.frame_scheduler.specs.Event.{Event}
use Rattle.frame_scheduler.specs.Unit.{Unit}
use Rattle.frame_scheduler.proofs.CueSlotLemmas.{cues_formed_in_slots}
use Rattle.frame_scheduler.proofs.CueCodesLemmas.{cue_codes_writable}
use Rattle.frame_scheduler.specs.FieldChunk.{FieldChunk}
use Rattle.frame_scheduler.specs.ChannelLane.{IsChannelPlaced, channel_chunks, channel_slot, field_cue_chunks, channel_chunks_from}
use Rattle.frame_scheduler.specs.LaneEvents.{event_at}
use Rattle.frame_scheduler.specs.LaneTimeline.{lane_timeline, stands}
use Rattle.frame_scheduler.specs.Planned.{channel_pair}
use Rattle.frame_scheduler.specs.SlotLists.{slot_cues}
use Rattle.frame_scheduler.specs.Timeline.{Timeline, repeat_at, repeat_of, slot}
use Rattle.frame_scheduler.proofs.DoublingLemmas.{at_event, at_unit, lane_marked, lane_spaced, over_cases}
use Rattle.frame_scheduler.proofs.EventsApartLemmas.{events_apart}
use Rattle.frame_scheduler.proofs.ListDoublingLemmas.{channel_controls, channel_timeline}
use Rattle.frame_scheduler.proofs.SlotLemmas.{slot_cues_formed}
use Rattle.line21_shown.specs.Reading.{IsCaptioned, IsForFirst}
use Rattle.line21_shown.proofs.BlindLemmas.{AreWriting, IsWriting, runs_writing, text, special_is, extended_is, preamble, tab, mid_row}

-- the codes of runs are for data channel 1
writing_first : (code : Code) → IsWriting code → IsForFirst code
writing_first code (text first second) = tt
writing_first code (special_is byte) = refl
writing_first code (extended_is set byte) = refl
writing_first code (preamble row col style) = refl
writing_first code (tab columns) = refl
writing_first code (mid_row colour underline) = refl

all_writing_first : (codes : List Code) → AreWriting codes → All IsForFirst codes
all_writing_first [] writing = All-nil IsForFirst
all_writing_first (code ∷ codes) writing = All-cons IsForFirst code codes (writing_first code writing.0) (all_writing_first codes writing.1)

-- a control code of data channel 1 before other codes
first_and : (control : Control) (codes : List Code) → All IsForFirst codes → All IsForFirst (first_channel control ∷ codes)
first_and control codes rest = All-cons IsForFirst (first_channel control) codes refl rest

-- so are those that begin a cue
opening_first : (k : Kind) → All IsForFirst (opening_codes k)
opening_first (kind.Pop channel) = first_and Rcl (first_channel Enm ∷ []) (first_and Enm [] (All-nil IsForFirst))
opening_first (kind.Paint channel) = first_and Rdc [] (All-nil IsForFirst)
opening_first (kind.Roll channel rows) = first_and (Ru rows) (first_channel Cr ∷ []) (first_and Cr [] (All-nil IsForFirst))
opening_first (kind.Win window) = All-nil IsForFirst

cue_codes_first : (cue : Cue) → All IsForFirst (cue_codes cue)
cue_codes_first cue =
    All-append IsForFirst (opening_codes cue.kind) (flat_map run_codes cue.runs) (opening_first cue.kind)
    (all_writing_first (flat_map run_codes cue.runs) (runs_writing cue.runs))

-- what holds of each pair that a code of data channel 1 is written as holds of all that begins on a channel
module _ (P : Pair → Type 0) (written_is : (in_field : FieldNumber) (code : Code) → IsWritable code → IsForFirst code → P (pair_of_code in_field code)) where
  abbrev OfChunk : FieldChunk → Type 0
  OfChunk chunk = P chunk.unit.pair

  abbrev OfEvent : Event → Type 0
  OfEvent event = P event.pair

  -- the units of a cue
  codes_all : (in_field : FieldNumber) (number : ℕ) (cue : Cue) (codes : List Code) → All IsWritable codes → All IsForFirst codes
      → All OfChunk (map (λ (unit : Unit). record { unit = unit; load = cue.load; until = cue.show; cue = number }) (map (unit_of in_field) codes))
  codes_all in_field number cue [] writable first = All-nil OfChunk
  codes_all in_field number cue (code ∷ codes) writable first =
      All-cons OfChunk (record { unit = unit_of in_field code; load = cue.load; until = cue.show; cue = number }) (map (λ (unit : Unit). record { unit = unit; load = cue.load; until = cue.show; cue = number }) (map (unit_of in_field) codes))
      (written_is in_field code (All-head IsWritable code codes writable) (All-head IsForFirst code codes first))
      (codes_all in_field number cue codes (All-tail IsWritable code codes writable) (All-tail IsForFirst code codes first))

  chunks_all : (channel : Chan) (number : ℕ) (cues : List Cue) → All IsCueFormed cues → All OfChunk (channel_chunks_from channel number cues)
  chunks_all channel number [] formed = All-nil OfChunk
  chunks_all channel number (cue ∷ cues) formed = by_test (is_on channel cue.kind) (chunks_all channel (suc number) cues (All-tail IsCueFormed cue cues formed))
    where
      own : All OfChunk (field_cue_chunks number cue)
      own = codes_all (field_of_kind cue.kind) number cue (cue_codes cue) (cue_codes_writable cue (All-head IsCueFormed cue cues formed)) (cue_codes_first cue)

      by_test : (b : Bool) → All OfChunk (channel_chunks_from channel (suc number) cues)
          → All OfChunk ((if b then field_cue_chunks number cue else []) ++ channel_chunks_from channel (suc number) cues)
      by_test true rest = All-append OfChunk (field_cue_chunks number cue) (channel_chunks_from channel (suc number) cues) own rest
      by_test false rest = rest

  -- events
  event_is : (in_field : FieldNumber) (frame : ℕ) (control : Control) → IsWritableControl control → OfEvent (control_event in_field frame control)
  event_is in_field frame control writable = written_is in_field (first_channel control) writable refl

  one_event : (event : Event) → OfEvent event → All OfEvent (event ∷ [])
  one_event event is = All-cons OfEvent event [] is (All-nil OfEvent)

  show_all : (in_field : FieldNumber) (pop_on : Bool) (show : ℕ) → All OfEvent (if pop_on then control_event in_field show Eoc ∷ [] else [])
  show_all in_field true show = one_event (control_event in_field show Eoc) (event_is in_field show Eoc tt)
  show_all in_field false show = All-nil OfEvent

  hide_all_at : (in_field : FieldNumber) (replaced : Bool) (hide : ℕ) → All OfEvent (if replaced then [] else control_event in_field hide Edm ∷ [])
  hide_all_at in_field true hide = All-nil OfEvent
  hide_all_at in_field false hide = one_event (control_event in_field hide Edm) (event_is in_field hide Edm tt)

  hide_all : (in_field : FieldNumber) (hide : Option ℕ) (later : List Cue) → All OfEvent (hide_events in_field hide later)
  hide_all in_field None later = All-nil OfEvent
  hide_all in_field (Some hide) later = hide_all_at in_field (is_replaced_at hide later) hide

  events_all : (in_field : FieldNumber) (cues : List Cue) → All OfEvent (cue_events in_field cues)
  events_all in_field [] = All-nil OfEvent
  events_all in_field (cue ∷ later) =
      All-append OfEvent (show_events in_field cue ++ hide_events in_field cue.hide later) (cue_events in_field later)
      (All-append OfEvent (show_events in_field cue) (hide_events in_field cue.hide later)
      (show_all in_field (is_pop cue.kind) cue.show) (hide_all in_field cue.hide later))
      (events_all in_field later)

  -- what begins at an event
  at_events : (es : List Event) (n : ℕ) (u : Unit) → All OfEvent es → event_at es n ≡ Some u → P u.pair
  at_events [] n u all is = cc
  at_events (e ∷ es) n u all is = go (at_events es n u (All-tail OfEvent e es all)) (eqb n e.slot) refl
    where
      go : (event_at es n ≡ Some u → P u.pair) → (b : Bool) → eqb n e.slot ≡ b → P u.pair
      go rest true b =
          let same : Some (record { pair = e.pair; doubled = true }) ≡ Some u = sym (at_event e es n true b) ∙ is in
          let it : record { pair = e.pair; doubled = true } ≡ u = cc in
          subst (λ (v : Unit). P v.pair) it (All-head OfEvent e es all)
      go rest false b = rest (sym (at_event e es n false b) ∙ is)

  -- what begins where a unit stands
  at_units : (ps : List FieldChunk) (fs : List ℕ) (n : ℕ) (u : Unit) → All OfChunk ps → stands ps fs n ≡ Some u → P u.pair
  at_units [] fs n u all is = cc
  at_units (p ∷ ps) [] n u all is = cc
  at_units (p ∷ ps) (f ∷ fs) n u all is = go (at_units ps fs n u (All-tail OfChunk p ps all)) (eqb n f) refl
    where
      go : (stands ps fs n ≡ Some u → P u.pair) → (b : Bool) → eqb n f ≡ b → P u.pair
      go rest true b =
          let same : Some p.unit ≡ Some u = sym (at_unit p ps f fs n true b) ∙ is in
          let it : p.unit ≡ u = cc in
          subst (λ (v : Unit). P v.pair) it (All-head OfChunk p ps all)
      go rest false b = rest (sym (at_unit p ps f fs n false b) ∙ is)

  -- what begins on a channel
  pub channel_all : (cues : List Cue) (channel : Chan) (placed : List ℕ) → All IsCueFormed cues → (n : ℕ) (u : Unit)
      → lane_timeline (event_at (channel_events channel cues)) (channel_chunks channel cues) placed n ≡ Some u → P u.pair
  channel_all cues channel placed formed n u is =
      let events = channel_events channel cues in
      let chunks = channel_chunks channel cues in
      ⊎_elim
      (λ (at : event_at events n ≡ Some u). at_events events n u (events_all (field_of_channel channel) (cues_on channel cues)) at)
      (λ (at : (event_at events n ≡ None) × (stands chunks placed n ≡ Some u)). at_units chunks placed n u (chunks_all channel 1 cues formed) at.1)
      (over_cases events chunks placed n u is)

  -- and so of the pairs of its slots, where it holds of the null pair
  pub slots_all : (cues : List Cue) (channel : Chan) (placed : List ℕ) → All IsCueFormed cues → P null_pair → (n : ℕ) → P (channel_slot channel cues placed n)
  slots_all cues channel placed formed null n = at_slot (repeat_at t n) refl (t n) refl
    where
      t : Timeline
      t = lane_timeline (event_at (channel_events channel cues)) (channel_chunks channel cues) placed

      begun : (m : ℕ) (o : Option Unit) (p : Pair) → t m ≡ o → repeat_of o ≡ Some p → P p
      begun m None p is due = cc
      begun m (Some u) p is due = by_doubled u.doubled refl
        where
          by_doubled : (b : Bool) → u.doubled ≡ b → P p
          by_doubled true twice =
              let same : Some u.pair ≡ Some p = sym (rw twice refl) ∙ due in
              let it : u.pair ≡ p = cc in
              subst P it (channel_all cues channel placed formed m u is)
          by_doubled false once = let wrong : None ≡ Some p = sym (rw once refl) ∙ due in absurd (cc)

      repeated : (m : ℕ) (p : Pair) → repeat_at t m ≡ Some p → P p
      repeated zero p due = cc
      repeated (suc m) p due = begun m (t m) p refl due

      at_slot : (r : Option Pair) → repeat_at t n ≡ r → (o : Option Unit) → t n ≡ o → P (slot t n)
      at_slot (Some p) due o at = subst P (sym (rw due refl)) (repeated n p due)
      at_slot None due (Some u) at = subst P (sym (rw (due, at) refl)) (channel_all cues channel placed formed n u at)
      at_slot None due None at = subst P (sym (rw (due, at) refl)) null

-- the pair is read as a code for data channel 1
abbrev pub IsFirstPair : Pair → Type 0
IsFirstPair pair = IsForFirst (code_of pair)

-- a code that is for it is written so
pub written_first : (in_field : FieldNumber) (code : Code) → IsWritable code → IsForFirst code → IsFirstPair (pair_of_code in_field code)
written_first in_field code writable first = subst IsForFirst (sym (written-code_of in_field code writable)) first

-- the timeline of a channel of a list that keeps the rules and is placed
pub channel_captioned : (list : Listing) (channel : Chan) (placed : List ℕ) → IsFormed list → IsRuled list → IsChannelPlaced channel (slot_cues list channel) placed
    → IsCaptioned (channel_timeline list channel placed)
channel_captioned list channel placed formed ruled earliest =
    let events = channel_events channel (slot_cues list channel) in
    let chunks = channel_chunks channel (slot_cues list channel) in
    record {
      marked = lane_marked events chunks placed (channel_controls list channel formed ruled);
      spaced = lane_spaced events chunks placed (events_apart list ruled channel) earliest.placed;
      first = channel_all IsFirstPair written_first (slot_cues list channel) channel placed (slot_cues_formed list formed channel);
    }

-- both of the pair are bytes
abbrev pub AreBytes : Pair → Type 0
AreBytes pair = (pair.a < 256) × (pair.b < 256)

written_bytes : (in_field : FieldNumber) (code : Code) → IsWritable code → IsForFirst code → AreBytes (pair_of_code in_field code)
written_bytes in_field code writable first = (written-a in_field code writable, written-b in_field code writable)

-- the pairs of a channel's slots are of bytes
slots_bytes : (cues : List Cue) (channel : Chan) (placed : List ℕ) → All IsCueFormed cues → (n : ℕ) → AreBytes (channel_slot channel cues placed n)
slots_bytes cues channel placed formed n = slots_all AreBytes written_bytes cues channel placed formed (omega arith, omega arith) n

-- and so are the pairs of the frames that have one
pub frame_bytes : (list : Listing) (channel : Chan) (placed : List ℕ) → All IsCueFormed list.cues → (n : ℕ) → IfSome (channel_pair list channel placed n) AreBytes
frame_bytes list channel placed formed n = of_slot (slot_in (cadence_of list.rate channel) n)
  where
    of_slot : (o : Option ℕ) → IfSome (option_map (channel_slot channel (slot_cues list channel) placed) o) AreBytes
    of_slot None = tt
    of_slot (Some k) = slots_bytes (slot_cues list channel) channel placed (cues_formed_in_slots (cadence_of list.rate channel) list.cues formed) k
