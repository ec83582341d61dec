-- A field's lane below a slot, with further cues of a channel that are loaded from the slot on.
use Rattle.std.proofs.Common.{◌≡◌, ◌∙◌, ℕ, suc, zero, ◌+◌, ◌<◌, ◌≤◌, ◌==◌, ltb, cond, Bool, true, false, List, [], ◌∷◌, ◌++◌, refl, sym, ap, subst, arith, append_assoc}
use Rattle.std.specs.Prelude.{Option, Some, None, IfSome, if◌then◌else◌, map, unwrap_or}
use Rattle.std.specs.Option.{option_map, option_or}
use Rattle.std.specs.List.{AllByRecursion, flat_map, zip}
use Rattle.std.proofs.lemmas.Bool.Decides.{nat_tests}
use Rattle.std.proofs.lemmas.List.Elements.{filter-append}
use Rattle.line21_codes.specs.Channels.{field_of_channel}
use Rattle.line21_codes.specs.NullPairs.{null_pair}
use Rattle.line21_codes.specs.declared.channels.Chan.{Chan}
use Rattle.cue_lists.specs.declared.cue.Cue.{Cue}
use Rattle.cue_lists.specs.declared.cue.Kind.{Kind}
use Rattle.cue_lists.specs.declared.cue.Kind.TheVariants.{Pop, Paint, Roll, Win}
use Rattle.lanes.specs.Channels.{cues_on, field_of_kind, is_on}
use Rattle.lanes.specs.CueCodes.{opening_codes}
use Rattle.lanes.specs.FirstChannel.{first_channel}
use Rattle.line21_codes.specs.declared.codes.Control.TheVariants.{Rcl, Enm, Rdc, Ru, Cr}
use Rattle.cue_lists.specs.declared.cue.Run.{Run}
use Rattle.lanes.specs.CueEvents.{channel_events, cue_events}
use Rattle.lanes.specs.CueUnits.{unit_of, units_of}
use Rattle.lanes.specs.RunCodes.{run_codes}
use Rattle.lanes.specs.Event.{Event}
use Rattle.lanes.specs.Unit.{Unit}
use Rattle.lanes.specs.Placing.{IsPlaced, IsEarliest}
use Rattle.lanes.proofs.PlacingLemmas.{placed_parts}
use Rattle.lanes.specs.ChannelLane.{IsChannelPlaced, channel_chunks, channel_chunks_from, channel_slot, field_cue_chunks}
use Rattle.lanes.specs.FieldLane.{IsAllowedInField, end_of, field_lane, slots_of}
use Rattle.lanes.specs.LaneEvents.{event_at}
use Rattle.lanes.specs.LaneTimeline.{lane_timeline, stands}
use Rattle.lanes.specs.Timeline.{Timeline, repeat_of, slot}
use Rattle.lanes.specs.declared.chunk.FieldChunk.{FieldChunk}
use Rattle.lanes.proofs.FieldLaneLemmas.{end_push, fits_earlier}
use Rattle.live_frames.specs.Fronts.{below, AreAlikeBelow, AreAllowedFrom, AreInOrder}
use Rattle.live_frames.proofs.FrontsLemmas.{all_append, same_front}
use Rattle.live_frames.proofs.EventFronts.{IsShownAfter, event_same, events_same, free_same, up_to}

-- a unit takes one slot or two
few_slots : (u : FieldChunk) → (1 ≤ slots_of u) × (slots_of u ≤ 2)
few_slots u = at u.unit.doubled
  where
    at : (b : Bool) → (1 ≤ (if b then 2 else 1)) × ((if b then 2 else 1) ≤ 2)
    at true = (omega arith, omega arith)
    at false = (omega arith, omega arith)

-- with the same events up to a slot two lanes allow the same below it
allowed_same : (last : ℕ) (one two : List Event) → up_to last one ≡ up_to last two → (end : ℕ) (u : FieldChunk) (f : ℕ) → f < last
    → IsAllowedInField one end u f → IsAllowedInField two end u f
allowed_same last one two same end u f low a = record {
  behind = a.behind;
  loaded = a.loaded;
  ended = a.ended;
  free = λ n from to. free_same last n (let few = few_slots u in omega arith) one two same (a.free n from to);
}

in_order : (events : List Event) → AreInOrder (field_lane events)
in_order events before u f v g a =
    let end : end_of (before ++ (u, f) ∷ []) ≡ f + slots_of u = end_push before u f in
    let behind : end_of (before ++ (u, f) ∷ []) ≤ g = a.behind in
    omega arith

field_alike : (last : ℕ) (one two : List Event) → up_to last one ≡ up_to last two → AreAlikeBelow last (field_lane one) (field_lane two)
field_alike last one two same = record {
  agree = λ before u f low. (
    allowed_same last one two same (end_of before) u f low,
    allowed_same last two one (sym same) (end_of before) u f low,
  );
  first_in_order = in_order one;
  second_in_order = in_order two;
  first_fits = fits_earlier one;
  second_fits = fits_earlier two;
}

-- what begins in a slot, of units with their slots
stood : List (FieldChunk × ℕ) → Timeline
stood [] n = None
stood (each ∷ placed) n = if n == each.1 then Some each.0.unit else stood placed n

stands_stood : (chunks : List FieldChunk) (fs : List ℕ) (n : ℕ) → stands chunks fs n ≡ stood (zip chunks fs) n
unfolding stood
stands_stood [] fs n = refl
stands_stood (chunk ∷ chunks) [] n = refl
stands_stood (chunk ∷ chunks) (f ∷ fs) n = ap (λ (o : Option Unit). if n == f then Some chunk.unit else o) (stands_stood chunks fs n)

stood_below : (last n : ℕ) → n < last → (placed : List (FieldChunk × ℕ)) → stood placed n ≡ stood (below last placed) n
unfolding stood
stood_below last n low [] = refl
stood_below last n low (each ∷ placed) = at (ltb each.1 last) refl (stood_below last n low placed)
  where
    at : (b : Bool) → ltb each.1 last ≡ b → stood placed n ≡ stood (below last placed) n
        → stood (each ∷ placed) n ≡ stood (cond b (each ∷ below last placed) (below last placed)) n
    at true is rest = ap (λ (o : Option Unit). if n == each.1 then Some each.0.unit else o) rest
    at false is rest = let test : (n == each.1) ≡ false = grind (arith, nat_tests) in rw test rest

stands_same : (last n : ℕ) → n < last → (cs ds : List FieldChunk) (fs gs : List ℕ) → below last (zip cs fs) ≡ below last (zip ds gs)
    → stands cs fs n ≡ stands ds gs n
stands_same last n low cs ds fs gs same =
    stands_stood cs fs n ∙ stood_below last n low (zip cs fs)
    ∙ ap (λ (l : List (FieldChunk × ℕ)). stood l n) same
    ∙ sym (stood_below last n low (zip ds gs)) ∙ sym (stands_stood ds gs n)

-- timelines that are the same below a slot have the same pairs there
slot_same : (last : ℕ) (one two : Timeline) → ((m : ℕ) → m < last → one m ≡ two m) → (n : ℕ) → n < last → slot one n ≡ slot two n
slot_same last one two same zero low =
    ap (λ (o : Option Unit). unwrap_or (option_or None (option_map (λ (unit : Unit). unit.pair) o)) null_pair) (same zero low)
slot_same last one two same (suc n) low =
    ap (λ (o : Option Unit). unwrap_or (option_or (repeat_of o) (option_map (λ (unit : Unit). unit.pair) (one (suc n)))) null_pair) (same n (omega arith))
    ∙ ap (λ (o : Option Unit). unwrap_or (option_or (repeat_of (two n)) (option_map (λ (unit : Unit). unit.pair) o)) null_pair) (same (suc n) low)

-- the units of cues, and of further ones
chunks_append : (channel : Chan) (number : ℕ) (cues more : List Cue)
    → (next : ℕ) × (channel_chunks_from channel number (cues ++ more) ≡ channel_chunks_from channel number cues ++ channel_chunks_from channel next more)
chunks_append channel number [] more = (number, refl)
chunks_append channel number (cue ∷ cues) more =
    let rest = chunks_append channel (suc number) cues more in
    let own = if is_on channel cue.kind then field_cue_chunks number cue else [] in (
      rest.0,
      ap (λ (l : List FieldChunk). own ++ l) rest.1
          ∙ sym (append_assoc own (channel_chunks_from channel (suc number) cues) (channel_chunks_from channel rest.0 more)),
    )

-- the units of cues that are loaded from a slot on may stand from it on alone
units_from : (events : List Event) (last number : ℕ) (cue : Cue) → last ≤ cue.load → (units : List Unit)
    → AreAllowedFrom last (field_lane events) (map (λ unit. record { unit = unit; load = cue.load; until = cue.show; cue = number }) units)
units_from events last number cue loaded [] = tt
units_from events last number cue loaded (unit ∷ units) =
    ((λ before f a. let from : cue.load ≤ f = a.loaded in omega arith), units_from events last number cue loaded units)

cue_units_from : (events : List Event) (last number : ℕ) (cue : Cue) → last ≤ cue.load → (on : Bool)
    → AreAllowedFrom last (field_lane events) (if on then field_cue_chunks number cue else [])
cue_units_from events last number cue loaded true = units_from events last number cue loaded (units_of cue)
cue_units_from events last number cue loaded false = tt

chunks_from : (events : List Event) (last : ℕ) (channel : Chan) (number : ℕ) (more : List Cue) → AllByRecursion (λ (cue : Cue). last ≤ cue.load) more
    → AreAllowedFrom last (field_lane events) (channel_chunks_from channel number more)
chunks_from events last channel number [] loaded = tt
chunks_from events last channel number (cue ∷ more) loaded =
    all_append (λ (u : FieldChunk). (before : List (FieldChunk × ℕ)) (f : ℕ) → field_lane events before u f → last ≤ f)
    (if is_on channel cue.kind then field_cue_chunks number cue else []) (channel_chunks_from channel (suc number) more)
    (cue_units_from events last number cue loaded.0 (is_on channel cue.kind)) (chunks_from events last channel (suc number) more loaded.1)

-- a cue on a channel has a unit
record HasUnit (cue : Cue) : Type 0 where
  unit : Unit
  units : List Unit
  is : units_of cue ≡ unit ∷ units

units_at : List Run → Kind → List Unit
units_at runs k = map (unit_of (field_of_kind k)) (opening_codes k ++ flat_map run_codes runs)

some_unit : (runs : List Run) (channel : Chan) (k : Kind) → is_on channel k ≡ true → (unit : Unit) × (units : List Unit) × (units_at runs k ≡ unit ∷ units)
unfolding units_at
some_unit runs channel (Pop c) on =
    (unit_of (field_of_channel c) (first_channel Rcl), map (unit_of (field_of_channel c)) (first_channel Enm ∷ flat_map run_codes runs), refl)
some_unit runs channel (Paint c) on = (unit_of (field_of_channel c) (first_channel Rdc), map (unit_of (field_of_channel c)) (flat_map run_codes runs), refl)
some_unit runs channel (Roll c rows) on =
    (unit_of (field_of_channel c) (first_channel (Ru rows)), map (unit_of (field_of_channel c)) (first_channel Cr ∷ flat_map run_codes runs), refl)
some_unit runs channel (Win w) on = cc

has_unit : (channel : Chan) (cue : Cue) → is_on channel cue.kind ≡ true → HasUnit cue
unfolding units_at
has_unit channel cue on =
    let some = some_unit cue.runs channel cue.kind on in
    record { unit = some.0; units = some.1; is = some.2 }

-- so if it is placed, its SHOW comes after its LOAD in slots too
shown_after : (events : List Event) (last : ℕ) (channel : Chan) (before : List (FieldChunk × ℕ)) (number : ℕ) (more : List Cue) (fs : List ℕ)
    → AllByRecursion (λ (cue : Cue). last ≤ cue.load) more → IsPlaced (field_lane events) before (channel_chunks_from channel number more) fs
    → AllByRecursion (λ (cue : Cue). last < cue.show) (cues_on channel more)
shown_after events last channel before number [] fs loaded placed = tt
shown_after events last channel before number (cue ∷ more) fs loaded placed =
    at (is_on channel cue.kind) refl placed (λ behind gs p. shown_after events last channel behind (suc number) more gs loaded.1 p)
  where
    first : (some : HasUnit cue) (front : List ℕ)
        → IsPlaced (field_lane events) before (map (λ unit. record { unit = unit; load = cue.load; until = cue.show; cue = number }) (some.unit ∷ some.units)) front
        → last < cue.show
    first some [] p = absurd p
    first some (f ∷ front) p =
        let few = few_slots (record { unit = some.unit; load = cue.load; until = cue.show; cue = number }) in
        let from : cue.load ≤ f = p.0.loaded in
        let to : f + slots_of (record { unit = some.unit; load = cue.load; until = cue.show; cue = number }) ≤ cue.show = p.0.ended in
        let low : last ≤ cue.load = loaded.0 in
        omega arith

    at : (b : Bool) → is_on channel cue.kind ≡ b
        → IsPlaced (field_lane events) before ((if b then field_cue_chunks number cue else []) ++ channel_chunks_from channel (suc number) more) fs
        → ((behind : List (FieldChunk × ℕ)) (gs : List ℕ) → IsPlaced (field_lane events) behind (channel_chunks_from channel (suc number) more) gs
        → AllByRecursion (λ (c : Cue). last < c.show) (cues_on channel more))
        → AllByRecursion (λ (c : Cue). last < c.show) (cond b (cue ∷ cues_on channel more) (cues_on channel more))
    at false on placed rest = rest before fs placed
    at true on placed rest =
        let some = has_unit channel cue on in
        let w = placed_parts (field_lane events) before (field_cue_chunks number cue) (channel_chunks_from channel (suc number) more) fs placed in (
          first some w.front (subst (λ (units : List Unit). IsPlaced (field_lane events) before
              (map (λ unit. record { unit = unit; load = cue.load; until = cue.show; cue = number }) units) w.front) some.is w.placed),
          rest (before ++ zip (field_cue_chunks number cue) w.front) w.back w.rest,
        )

after_all : (last : ℕ) (cues : List Cue) → AllByRecursion (λ (cue : Cue). last < cue.show) cues
    → AllByRecursion (λ (cue : Cue). IfSome cue.hide (λ hide. cue.show < hide)) cues → AllByRecursion (IsShownAfter last) cues
after_all last [] shown hidden = tt
after_all last (cue ∷ cues) shown hidden =
    (record { shown = shown.0; hidden = at cue.hide hidden.0 }, after_all last cues shown.1 hidden.1)
  where
    at : (hide : Option ℕ) → IfSome hide (λ h. cue.show < h) → IfSome hide (λ h. last < h)
    at None later = tt
    at (Some h) later = omega (arith, shown.0)

-- the slots of a channel below one from which on the further cues are loaded
module _ (channel : Chan) (last : ℕ) (cues more : List Cue) (slots moved : List ℕ)
    (loaded : AllByRecursion (λ (cue : Cue). last ≤ cue.load) more)
    (hidden : AllByRecursion (λ (cue : Cue). IfSome cue.hide (λ hide. cue.show < hide)) (cues_on channel more))
    (placed : IsChannelPlaced channel cues slots) (longer : IsChannelPlaced channel (cues ++ more) moved) where
  number : ℕ
  number = (chunks_append channel 1 cues more).0

  joined : channel_chunks channel (cues ++ more) ≡ channel_chunks channel cues ++ channel_chunks_from channel number more
  unfolding number
  joined = (chunks_append channel 1 cues more).1

  events : List Event
  events = channel_events channel (cues ++ more)

  in_two : IsEarliest (field_lane events) (channel_chunks channel cues ++ channel_chunks_from channel number more) moved
  unfolding events
  in_two = subst (λ (l : List FieldChunk). IsEarliest (field_lane events) l moved) joined longer

  behind : AllByRecursion (IsShownAfter last) (cues_on channel more)
  behind =
      let w = placed_parts (field_lane events) [] (channel_chunks channel cues) (channel_chunks_from channel number more) moved in_two.placed in
      after_all last (cues_on channel more)
      (shown_after events last channel (zip (channel_chunks channel cues) w.front) number more w.back loaded w.rest) hidden

  same_events : up_to last (channel_events channel cues) ≡ up_to last events
  unfolding events
  same_events =
      sym (ap (λ (l : List Cue). up_to last (cue_events (field_of_channel channel) l)) (filter-append (λ (cue : Cue). is_on channel cue.kind) cues more)
      ∙ events_same (field_of_channel channel) last (cues_on channel cues) (cues_on channel more) behind)

  same_units : below last (zip (channel_chunks channel cues) slots) ≡ below last (zip (channel_chunks channel (cues ++ more)) moved)
  same_units =
      subst (λ (l : List FieldChunk). below last (zip (channel_chunks channel cues) slots) ≡ below last (zip l moved)) (sym joined)
      (same_front last (field_lane (channel_events channel cues)) (field_lane events) (field_alike last (channel_events channel cues) events same_events)
      (channel_chunks channel cues) (channel_chunks_from channel number more) slots moved placed in_two (chunks_from events last channel number more loaded))

  timeline_same : (n : ℕ) → n < last
      → lane_timeline (event_at (channel_events channel cues)) (channel_chunks channel cues) slots n
      ≡ lane_timeline (event_at events) (channel_chunks channel (cues ++ more)) moved n
  timeline_same n low =
      let event = event_same last n (omega arith) (channel_events channel cues) events same_events in
      let unit = stands_same last n low (channel_chunks channel cues) (channel_chunks channel (cues ++ more)) slots moved same_units in
      ap (λ (o : Option Unit). option_or o (stands (channel_chunks channel cues) slots n)) event
      ∙ ap (λ (o : Option Unit). option_or (event_at events n) o) unit

  pub slots_kept : (n : ℕ) → n < last → channel_slot channel cues slots n ≡ channel_slot channel (cues ++ more) moved n
  unfolding events
  slots_kept n low =
      slot_same last (lane_timeline (event_at (channel_events channel cues)) (channel_chunks channel cues) slots)
      (lane_timeline (event_at events) (channel_chunks channel (cues ++ more)) moved) timeline_same n low
