-- The lane of the cues of a channel from one of them on: its units, its events, and what begins at each frame.
use Rattle.std.proofs.Common.{◌≡◌, ◌≢◌, ℕ, suc, ◌+◌, ◌<◌, ◌≤◌, max, Bool, true, false, cond, List, [], ◌∷◌, ◌++◌, Option, Some, None, All, refl, sym, ap, ◌∙◌, subst, arith}
use Rattle.std.specs.Prelude.{⊤, ◌==◌, if◌then◌else◌, IfSome}
use Rattle.std.specs.Option.{option_or}
use Rattle.std.proofs.lemmas.Bool.Decides.{nat_tests}
use Rattle.std.proofs.lemmas.List.Elements.{All-append, All-head, All-map, All-nil, All-tail}
use Rattle.line21_codes.specs.declared.channels.FieldNumber.{FieldNumber}
use Rattle.line21_codes.specs.declared.channels.Chan.{Chan}
use Rattle.line21_codes.specs.declared.codes.Control.TheVariants.{Eoc, Edm}
use Rattle.line21_codes.specs.Writing.{pair_of_code}
use Rattle.cue_lists.specs.declared.cue.Cue.{Cue}
use Rattle.cue_lists.specs.Rules.Lane.{is_pop}
use Rattle.frame_scheduler.specs.Channels.{cues_on, is_on}
use Rattle.frame_scheduler.specs.CueEvents.{control_event, cue_events, hide_events, is_replaced_at, show_events}
use Rattle.frame_scheduler.specs.CueUnits.{units_of}
use Rattle.frame_scheduler.specs.EventOrder.{AreApart, AreFrom}
use Rattle.frame_scheduler.specs.FirstChannel.{first_channel}
use Rattle.frame_scheduler.specs.Event.{Event}
use Rattle.frame_scheduler.specs.Unit.{Unit}
use Rattle.frame_scheduler.specs.FieldChunk.{FieldChunk}
use Rattle.frame_scheduler.specs.ChannelLane.{field_cue_chunks, channel_chunks_from}
use Rattle.cue_lists.specs.Rules.Sentences.{AreInSequence}
use Rattle.frame_scheduler.specs.FieldLane.{end_of, field_lane}
use Rattle.frame_scheduler.specs.LaneEvents.{IsFree, event_at}
use Rattle.frame_scheduler.specs.LaneTimeline.{stands}
use Rattle.frame_scheduler.specs.Placing.{IsPlaced}
use Rattle.frame_scheduler.proofs.DoublingLemmas.{free_none}
use Rattle.frame_scheduler.proofs.FieldLaneLemmas.{end_push}
use Rattle.frame_scheduler.proofs.EventLemmas.{event_none, from_earlier, some_slot}
use Rattle.line21_shown.proofs.LoadingLemmas.{StandBeside, erases}

-- the chunks are the units of the cues, in their order
abbrev pub AreChunks : List Cue → List FieldChunk → Type 0
AreChunks [] chunks = chunks ≡ []
AreChunks (cue ∷ later) chunks = (number : ℕ) × (rest : List FieldChunk) × (chunks ≡ field_cue_chunks number cue ++ rest) × AreChunks later rest

-- the chunks of a channel are its cues' chunks
pub chunks_are : (channel : Chan) (number : ℕ) (cues : List Cue) → AreChunks (cues_on channel cues) (channel_chunks_from channel number cues)
chunks_are channel number [] = refl
chunks_are channel number (cue ∷ cues) = by_test (is_on channel cue.kind) (chunks_are channel (suc number) cues)
  where
    by_test : (b : Bool) → AreChunks (cues_on channel cues) (channel_chunks_from channel (suc number) cues)
        → AreChunks (cond b (cue ∷ cues_on channel cues) (cues_on channel cues)) ((if b then field_cue_chunks number cue else []) ++ channel_chunks_from channel (suc number) cues)
    by_test true rest = (number, channel_chunks_from channel (suc number) cues, refl, rest)
    by_test false rest = rest

-- the chunks stand one after the other from frame a on, each within its time and in a free slot
abbrev pub ArePlacedFrom : List Event → ℕ → List FieldChunk → List ℕ → Type 0
ArePlacedFrom events a [] [] = ⊤
ArePlacedFrom events a [] (f ∷ fs) = ⊥
ArePlacedFrom events a (chunk ∷ chunks) [] = ⊥
ArePlacedFrom events a (chunk ∷ chunks) (f ∷ fs) =
    (a ≤ f) × (chunk.load ≤ f) × (f < chunk.until) × IsFree events f × ArePlacedFrom events (suc f) chunks fs

-- in a placement they do
pub placed_from : (events : List Event) (before : List (FieldChunk × ℕ)) (a : ℕ) (chunks : List FieldChunk) (fs : List ℕ) → a ≤ end_of before
    → IsPlaced (field_lane events) before chunks fs → ArePlacedFrom events a chunks fs
placed_from events before a [] [] low placed = tt
placed_from events before a [] (f ∷ fs) low placed = placed
placed_from events before a (chunk ∷ chunks) [] low placed = placed
placed_from events before a (chunk ∷ chunks) (f ∷ fs) low placed =
    let behind : end_of before ≤ f = placed.0.behind in (
      omega arith,
      placed.0.loaded,
      omega (arith, placed.0.ended, some_slot f chunk),
      placed.0.free f (omega arith) (some_slot f chunk),
      placed_from events (before ++ (chunk, f) ∷ []) (suc f) chunks fs (omega (arith, end_push before chunk f, some_slot f chunk)) placed.1,
    )

-- chunks and those after them, each with their frames
pub record Parts (events : List Event) (a : ℕ) (chunks more : List FieldChunk) (fs : List ℕ) : Type 0 where
  pub front : List ℕ
  pub back : List ℕ
  pub is : fs ≡ front ++ back
  pub first : ArePlacedFrom events a chunks front
  pub rest : ArePlacedFrom events a more back

-- chunks that stand from a frame on stand from an earlier one on
lower : (events : List Event) (a b : ℕ) (chunks : List FieldChunk) (fs : List ℕ) → b ≤ a → ArePlacedFrom events a chunks fs → ArePlacedFrom events b chunks fs
lower events a b [] [] below placed = tt
lower events a b [] (f ∷ fs) below placed = placed
lower events a b (chunk ∷ chunks) [] below placed = placed
lower events a b (chunk ∷ chunks) (f ∷ fs) below placed = (let from : a ≤ f = placed.0 in omega arith, placed.1, placed.2, placed.3, placed.4)

pub parts : (events : List Event) (a : ℕ) (chunks more : List FieldChunk) (fs : List ℕ) → ArePlacedFrom events a (chunks ++ more) fs → Parts events a chunks more fs
parts events a [] more fs placed = record { front = []; back = fs; is = refl; first = tt; rest = placed }
parts events a (chunk ∷ chunks) more [] placed = absurd placed
parts events a (chunk ∷ chunks) more (f ∷ fs) placed =
    let w = parts events (suc f) chunks more fs placed.4 in
    let from : a ≤ f = placed.0 in
    record {
      front = f ∷ w.front;
      back = w.back;
      is = ap (λ frames. f ∷ frames) w.is;
      first = (placed.0, placed.1, placed.2, placed.3, w.first);
      rest = lower events (suc f) a more w.back (omega arith) w.rest;
    }

-- chunks whose frames are from b on, by what is known of a frame in which the first of them may stand
pub raised : (events : List Event) (a b : ℕ) (P : FieldChunk → Type 0) (chunks : List FieldChunk) (fs : List ℕ)
    → ((chunk : FieldChunk) (f : ℕ) → P chunk → chunk.load ≤ f → IsFree events f → b ≤ f)
    → All P chunks → ArePlacedFrom events a chunks fs → ArePlacedFrom events b chunks fs
raised events a b P [] [] from all placed = tt
raised events a b P [] (f ∷ fs) from all placed = placed
raised events a b P (chunk ∷ chunks) [] from all placed = placed
raised events a b P (chunk ∷ chunks) (f ∷ fs) from all placed =
    (from chunk f (All-head P chunk chunks all) placed.1 placed.3, placed.1, placed.2, placed.3, placed.4)

-- what is free of events is free of those after them
free_behind : (events more : List Event) (n : ℕ) → IsFree (events ++ more) n → IsFree more n
free_behind [] more n free = free
free_behind (event ∷ events) more n free = free_behind events more n free.2

pub placed_behind : (events more : List Event) (a : ℕ) (chunks : List FieldChunk) (fs : List ℕ) → ArePlacedFrom (events ++ more) a chunks fs
    → ArePlacedFrom more a chunks fs
placed_behind events more a [] [] placed = tt
placed_behind events more a [] (f ∷ fs) placed = placed
placed_behind events more a (chunk ∷ chunks) [] placed = placed
placed_behind events more a (chunk ∷ chunks) (f ∷ fs) placed =
    (placed.0, placed.1, placed.2, free_behind events more f placed.3, placed_behind events more (suc f) chunks fs placed.4)

-- what stands first, at its frame
stands_at : (chunk : FieldChunk) (chunks : List FieldChunk) (f : ℕ) (fs : List ℕ) (n : ℕ) (b : Bool) → (n == f) ≡ b
    → stands (chunk ∷ chunks) (f ∷ fs) n ≡ (if b then Some chunk.unit else stands chunks fs n)
stands_at chunk chunks f fs n b test = rw test refl

-- nothing stands before the first frame
pub stands_low : (events : List Event) (a n : ℕ) (chunks : List FieldChunk) (fs : List ℕ) → ArePlacedFrom events a chunks fs → n < a → stands chunks fs n ≡ None
stands_low events a n [] fs placed below = refl
stands_low events a n (chunk ∷ chunks) [] placed below = refl
stands_low events a n (chunk ∷ chunks) (f ∷ fs) placed below =
    let from : a ≤ f = placed.0 in
    let test : (n == f) ≡ false = grind (arith, nat_tests) in
    stands_at chunk chunks f fs n false test ∙ stands_low events (suc f) n chunks fs placed.4 (omega arith)

-- nothing stands when the chunks' time is over
pub stands_high : (events : List Event) (a z n : ℕ) (chunks : List FieldChunk) (fs : List ℕ) → ArePlacedFrom events a chunks fs
    → All (λ chunk. chunk.until ≡ z) chunks → z ≤ n → stands chunks fs n ≡ None
stands_high events a z n [] fs placed all above = refl
stands_high events a z n (chunk ∷ chunks) [] placed all above = refl
stands_high events a z n (chunk ∷ chunks) (f ∷ fs) placed all above =
    let ends : chunk.until ≡ z = All-head (λ (p : FieldChunk). p.until ≡ z) chunk chunks all in
    let below : f < chunk.until = placed.2 in
    let test : (n == f) ≡ false = grind (arith, nat_tests) in
    stands_at chunk chunks f fs n false test
    ∙ stands_high events (suc f) z n chunks fs placed.4 (All-tail (λ (p : FieldChunk). p.until ≡ z) chunk chunks all) above

-- what stands of chunks and those after them
pub stands_parts : (events : List Event) (a n : ℕ) (chunks more : List FieldChunk) (front back : List ℕ) → ArePlacedFrom events a chunks front
    → stands (chunks ++ more) (front ++ back) n ≡ option_or (stands chunks front n) (stands more back n)
stands_parts events a n [] more [] back placed = refl
stands_parts events a n [] more (f ∷ front) back placed = absurd placed
stands_parts events a n (chunk ∷ chunks) more [] back placed = absurd placed
stands_parts events a n (chunk ∷ chunks) more (f ∷ front) back placed = go (n == f) refl (stands_parts events (suc f) n chunks more front back placed.4)
  where
    go : (b : Bool) → (n == f) ≡ b → stands (chunks ++ more) (front ++ back) n ≡ option_or (stands chunks front n) (stands more back n)
        → stands (chunk ∷ (chunks ++ more)) (f ∷ (front ++ back)) n ≡ option_or (stands (chunk ∷ chunks) (f ∷ front) n) (stands more back n)
    go true test rest = rw test refl
    go false test rest = rw test rest

-- chunks that are placed stand beside what hides, where that is all there is of the events before their time is over
pub beside : (in_field : FieldNumber) (hide : Option ℕ) (events : List Event) (a z : ℕ) (chunks : List FieldChunk) (fs : List ℕ)
    → ((n : ℕ) → n < z → event_at events n ≡ erases in_field hide n)
    → All (λ chunk. chunk.until ≡ z) chunks → ArePlacedFrom events a chunks fs → StandBeside (erases in_field hide) a z chunks fs
beside in_field hide events a z [] [] same all placed = tt
beside in_field hide events a z [] (f ∷ fs) same all placed = placed
beside in_field hide events a z (chunk ∷ chunks) [] same all placed = placed
beside in_field hide events a z (chunk ∷ chunks) (f ∷ fs) same all placed =
    let ends : chunk.until ≡ z = All-head (λ (p : FieldChunk). p.until ≡ z) chunk chunks all in
    let below : f < chunk.until = placed.2 in
    let early : f < z = omega arith in (
      placed.0,
      early,
      sym (same f early) ∙ free_none events f placed.3,
      beside in_field hide events (suc f) z chunks fs same (All-tail (λ (p : FieldChunk). p.until ≡ z) chunk chunks all) placed.4,
    )

-- the chunks of a cue have its SHOW for their end
pub cue_until : (number : ℕ) (cue : Cue) → All (λ chunk. chunk.until ≡ cue.show) (field_cue_chunks number cue)
cue_until number cue =
    All-map (λ (chunk : FieldChunk). chunk.until ≡ cue.show) (λ (unit : Unit). record { unit = unit; load = cue.load; until = cue.show; cue = number }) (units_of cue)
    (λ k d within. refl)

-- and its LOAD for their beginning
pub cue_loads : (b number : ℕ) (cue : Cue) → b ≤ cue.load → All (λ chunk. b ≤ chunk.load) (field_cue_chunks number cue)
cue_loads b number cue from =
    All-map (λ (chunk : FieldChunk). b ≤ chunk.load) (λ (unit : Unit). record { unit = unit; load = cue.load; until = cue.show; cue = number }) (units_of cue)
    (λ k d within. from)

-- the first of the cues begins to load at frame b or later
abbrev pub LoadFrom : ℕ → List Cue → Type 0
LoadFrom b [] = ⊤
LoadFrom b (cue ∷ later) = b ≤ cue.load

-- then all of them do
pub loads_from : (frames b : ℕ) (cues : List Cue) (chunks : List FieldChunk) → AreInSequence 1 frames cues → LoadFrom b cues → AreChunks cues chunks
    → All (λ chunk. b ≤ chunk.load) chunks
loads_from frames b [] chunks sequence from are = subst (All (λ (chunk : FieldChunk). b ≤ chunk.load)) (sym are) (All-nil (λ (chunk : FieldChunk). b ≤ chunk.load))
loads_from frames b (cue ∷ []) chunks sequence from are =
    subst (All (λ (chunk : FieldChunk). b ≤ chunk.load)) (sym are.2)
    (All-append (λ (chunk : FieldChunk). b ≤ chunk.load) (field_cue_chunks are.0 cue) are.1 (cue_loads b are.0 cue from) (loads_from frames b [] are.1 tt tt are.3))
loads_from frames b (cue ∷ (next ∷ later)) chunks sequence from are =
    let shown : cue.load < cue.show = sequence.0.loaded in
    let behind : cue.show ≤ next.load = sequence.1.loaded in
    subst (All (λ (chunk : FieldChunk). b ≤ chunk.load)) (sym are.2)
    (All-append (λ (chunk : FieldChunk). b ≤ chunk.load) (field_cue_chunks are.0 cue) are.1 (cue_loads b are.0 cue from)
    (loads_from frames b (next ∷ later) are.1 sequence.2 (omega arith) are.3))

-- the unit that shows a pop-on cue
abbrev pub showing_unit : FieldNumber → Unit
showing_unit in_field = record { pair = pair_of_code in_field (first_channel Eoc); doubled = true }

-- what begins at a frame of an event and those after it
event_first : (in_field : FieldNumber) (frame : ℕ) (events : List Event) (n : ℕ) (b : Bool) → (n == frame) ≡ b
    → event_at (control_event in_field frame Eoc ∷ events) n ≡ (if b then Some (showing_unit in_field) else event_at events n)
event_first in_field frame events n b test = rw test refl

-- what hides, and the events after it: where the next cue replaces what is shown, nothing hides it
hide_first : (in_field : FieldNumber) (hide : Option ℕ) (cue : Cue) (later : List Cue) (events : List Event) (n : ℕ) → is_pop cue.kind ≡ true
    → event_at events cue.show ≡ Some (showing_unit in_field)
    → event_at (hide_events in_field hide (cue ∷ later) ++ events) n ≡ (if n == cue.show then Some (showing_unit in_field) else option_or (erases in_field hide n) (event_at events n))
hide_first in_field None cue later events n pop shows = go (n == cue.show) refl
  where
    go : (b : Bool) → (n == cue.show) ≡ b → event_at events n ≡ (if n == cue.show then Some (showing_unit in_field) else event_at events n)
    go true test = let here : n ≡ cue.show = grind (arith, nat_tests) in rw test (ap (event_at events) here ∙ shows)
    go false test = rw test refl
hide_first in_field (Some hide) cue later events n pop shows = rw pop (by_test (cue.show == hide) refl)
  where
    by_test : (r : Bool) → (cue.show == hide) ≡ r
        → event_at ((if r then [] else control_event in_field hide Edm ∷ []) ++ events) n
        ≡ (if n == cue.show then Some (showing_unit in_field) else option_or (erases in_field (Some hide) n) (event_at events n))
    by_test true same = go (n == cue.show) refl
      where
        go : (b : Bool) → (n == cue.show) ≡ b → event_at events n ≡ (if n == cue.show then Some (showing_unit in_field) else option_or (erases in_field (Some hide) n) (event_at events n))
        go true test = let here : n ≡ cue.show = grind (arith, nat_tests) in rw test (ap (event_at events) here ∙ shows)
        go false test =
            let other : (n == hide) ≡ false = grind (arith, nat_tests) in
            rw (test, other) refl
    by_test false apart = go (n == cue.show) refl (n == hide) refl
      where
        go : (b : Bool) → (n == cue.show) ≡ b → (c : Bool) → (n == hide) ≡ c
            → event_at (control_event in_field hide Edm ∷ events) n
            ≡ (if n == cue.show then Some (showing_unit in_field) else option_or (erases in_field (Some hide) n) (event_at events n))
        go true test true at = let wrong : (cue.show == hide) ≡ true = grind (arith, nat_tests) in cc
        go true test false at = let here : n ≡ cue.show = grind (arith, nat_tests) in rw (test, at) (ap (event_at events) here ∙ shows)
        go false test true at = rw (test, at) refl
        go false test false at = rw (test, at) refl

-- the events after what shows a pop-on cue
abbrev pub events_behind : FieldNumber → Cue → List Cue → List Event
events_behind in_field cue later = hide_events in_field cue.hide later ++ cue_events in_field later

-- the events of a pop-on cue and of those after it
pub pop_events : (in_field : FieldNumber) (cue : Cue) (later : List Cue) → is_pop cue.kind ≡ true
    → cue_events in_field (cue ∷ later) ≡ control_event in_field cue.show Eoc ∷ events_behind in_field cue later
pop_events in_field cue later pop = rw pop refl

module _ (in_field : FieldNumber) (hide : Option ℕ) (cue : Cue) (later : List Cue) (pop : is_pop cue.kind ≡ true)
    (apart : AreApart (cue_events in_field (cue ∷ later))) where
  abbrev rest : List Event
  rest = events_behind in_field cue later

  abbrev all_events : List Event
  all_events = hide_events in_field hide (cue ∷ later) ++ cue_events in_field (cue ∷ later)

  apart_rest : AreFrom (cue.show + 2) rest
  apart_rest = (subst AreApart (pop_events in_field cue later pop) apart).0

  shows_at : (n : ℕ) (b : Bool) → (n == cue.show) ≡ b → event_at (cue_events in_field (cue ∷ later)) n ≡ (if b then Some (showing_unit in_field) else event_at rest n)
  shows_at n b test = ap (λ events. event_at events n) (pop_events in_field cue later pop) ∙ event_first in_field cue.show rest n b test

  shows_here : event_at (cue_events in_field (cue ∷ later)) cue.show ≡ Some (showing_unit in_field)
  shows_here = shows_at cue.show true (grind (arith, nat_tests))

  all_at : (n : ℕ) → event_at all_events n ≡ (if n == cue.show then Some (showing_unit in_field) else option_or (erases in_field hide n) (event_at (cue_events in_field (cue ∷ later)) n))
  all_at n = hide_first in_field hide cue later (cue_events in_field (cue ∷ later)) n pop shows_here

  -- before SHOW nothing begins but what hides the former cue
  pub before_show : (n : ℕ) → n < cue.show → event_at all_events n ≡ erases in_field hide n
  before_show n below =
      let test : (n == cue.show) ≡ false = grind (arith, nat_tests) in
      let none : event_at (cue_events in_field (cue ∷ later)) n ≡ None =
      shows_at n false test ∙ event_none (cue.show + 2) n rest apart_rest (omega arith) in
      all_at n ∙ rw (test, none) (last (erases in_field hide n))
    where
      last : (u : Option Unit) → option_or u None ≡ u
      last None = refl
      last (Some unit) = refl

  -- at SHOW it is shown
  pub at_show : event_at all_events cue.show ≡ Some (showing_unit in_field)
  at_show = let test : (cue.show == cue.show) ≡ true = grind (arith, nat_tests) in all_at cue.show ∙ rw test refl

  -- after SHOW the events after it begin
  pub behind_show : IfSome hide (λ h. h ≤ cue.show) → (n : ℕ) → cue.show < n → event_at all_events n ≡ event_at rest n
  behind_show hidden n above =
      let test : (n == cue.show) ≡ false = grind (arith, nat_tests) in
      all_at n ∙ rw (test, over hide hidden) (shows_at n false test)
    where
      over : (h : Option ℕ) → IfSome h (λ x. x ≤ cue.show) → erases in_field h n ≡ None
      over None hidden = refl
      over (Some h) hidden = let other : (n == h) ≡ false = grind (arith, nat_tests) in rw other refl

-- events and those after them
from-append : (n : ℕ) (events more : List Event) → AreFrom n events → AreFrom n more → AreFrom n (events ++ more)
from-append n [] more from too = too
from-append n (event ∷ events) more from too = (from.0, from-append n events more from.1 too)

-- what shows a cue is at its SHOW
shows_from : (in_field : FieldNumber) (pop_on : Bool) (show : ℕ) → AreFrom show (if pop_on then control_event in_field show Eoc ∷ [] else [])
shows_from in_field true show = (omega arith, tt)
shows_from in_field false show = tt

-- what hides it is later
hides_from_at : (in_field : FieldNumber) (replaced : Bool) (show hide : ℕ) → show < hide → AreFrom show (if replaced then [] else control_event in_field hide Edm ∷ [])
hides_from_at in_field true show hide later = tt
hides_from_at in_field false show hide later = (omega arith, tt)

hides_from : (in_field : FieldNumber) (show : ℕ) (hide : Option ℕ) (later : List Cue) → IfSome hide (λ h. show < h) → AreFrom show (hide_events in_field hide later)
hides_from in_field show None later hidden = tt
hides_from in_field show (Some hide) later hidden = hides_from_at in_field (is_replaced_at hide later) show hide hidden

-- the events of cues in sequence are at the SHOW of the first of them or later
pub events_from : (in_field : FieldNumber) (frames : ℕ) (cue : Cue) (later : List Cue) → AreInSequence 1 frames (cue ∷ later)
    → AreFrom cue.show (cue_events in_field (cue ∷ later))
events_from in_field frames cue [] sequence =
    from-append cue.show (show_events in_field cue ++ hide_events in_field cue.hide []) []
    (from-append cue.show (show_events in_field cue) (hide_events in_field cue.hide []) (shows_from in_field (is_pop cue.kind) cue.show)
    (hides_from in_field cue.show cue.hide [] sequence.hidden)) tt
events_from in_field frames cue (next ∷ later) sequence =
    from-append cue.show (show_events in_field cue ++ hide_events in_field cue.hide (next ∷ later)) (cue_events in_field (next ∷ later))
    (from-append cue.show (show_events in_field cue) (hide_events in_field cue.hide (next ∷ later)) (shows_from in_field (is_pop cue.kind) cue.show)
    (hides_from in_field cue.show cue.hide (next ∷ later) sequence.0.hidden))
    (from_earlier cue.show next.show (cue_events in_field (next ∷ later)) (next_shown next later sequence.1.loaded sequence.2)
    (events_from in_field frames next later sequence.2))
  where
    next_shown : (next : Cue) (later : List Cue) → cue.show ≤ next.load → AreInSequence 1 frames (next ∷ later) → cue.show ≤ next.show
    next_shown next [] behind sequence = let shown : next.load < next.show = sequence.loaded in omega arith
    next_shown next (third ∷ later) behind sequence = let shown : next.load < next.show = sequence.0.loaded in omega arith

-- the events of a cue that isn't pop-on, and of those after it
pub plain_events : (in_field : FieldNumber) (cue : Cue) (later : List Cue) → is_pop cue.kind ≡ false
    → cue_events in_field (cue ∷ later) ≡ events_behind in_field cue later
plain_events in_field cue later plain = rw plain refl

-- what hides the former cue, and these events
pub plain_at : (in_field : FieldNumber) (hide : Option ℕ) (cue : Cue) (later : List Cue) (events : List Event) (n : ℕ) → is_pop cue.kind ≡ false
    → event_at (hide_events in_field hide (cue ∷ later) ++ events) n ≡ option_or (erases in_field hide n) (event_at events n)
plain_at in_field None cue later events n plain = refl
plain_at in_field (Some hide) cue later events n plain = rw plain (by_test (n == hide) refl)
  where
    by_test : (b : Bool) → (n == hide) ≡ b
        → event_at (control_event in_field hide Edm ∷ events) n ≡ option_or (erases in_field (Some hide) n) (event_at events n)
    by_test true test = rw test refl
    by_test false test = rw test refl

-- the frame from which on a cue that isn't pop-on is written: its LOAD, or after the HIDE of the former cue
abbrev pub writes_from : Option ℕ → ℕ → ℕ
writes_from None load = load
writes_from (Some hide) load = max load (suc hide)

-- a free frame from LOAD on is one of these
pub plain_free : (in_field : FieldNumber) (hide : Option ℕ) (cue : Cue) (later : List Cue) (events : List Event) (f : ℕ) → is_pop cue.kind ≡ false
    → IfSome hide (λ h. h ≤ cue.load) → cue.load ≤ f → IsFree (hide_events in_field hide (cue ∷ later) ++ events) f → writes_from hide cue.load ≤ f
plain_free in_field None cue later events f plain hidden from free = from
plain_free in_field (Some hide) cue later events f plain hidden from free =
    let held : hide ≢ f = (rw plain at free).0 in
    let up : hide ≤ f = omega arith in
    omega arith
