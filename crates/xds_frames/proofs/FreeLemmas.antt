-- The captions of CC3 leave the free slots of field 2.
use Rattle.std.proofs.Common.{◌≡◌, ℕ, suc, ◌+◌, ◌<◌, ◌≤◌, ◌==◌, ◌&&◌, ◌||◌, not, nat_le, nat_lt, Bool, true, false, List, [], ◌∷◌, ◌++◌, Option, Some, None, refl, sym, ap, ◌∙◌, subst, arith, ⊎_elim, eqb, le-leb, lt-ltb, map}
use Rattle.std.specs.Prelude.{if◌then◌else◌, ⊤}
use Rattle.std.specs.Option.{option_or}
use Rattle.std.proofs.lemmas.Bool.{cases_lt}
use Rattle.std.proofs.lemmas.Bool.Decides.{nat_tests}
use Rattle.cue_lists.specs.declared.cue.Cue.{Cue}
use Rattle.line21_author.specs.Channels.{is_on}
use Rattle.line21_author.specs.CueEvents.{channel_events}
use Rattle.line21_author.specs.CueUnits.{units_of}
use Rattle.line21_author.specs.CueSlots.{cues_in_slots, timed_in_slots}
use Rattle.line21_author.specs.declared.event.Event.{Event}
use Rattle.line21_author.specs.declared.unit.Unit.{Unit}
use Rattle.line21_codes.specs.NullPairs.{is_null, null_pair}
use Rattle.line21_codes.specs.Reading.{code_of}
use Rattle.line21_codes.specs.declared.channels.Chan.TheVariants.{Cc3}
use Rattle.line21_codes.specs.declared.channels.DataChannel.TheVariants.{One}
use Rattle.line21_codes.specs.declared.pairs.Pair.{Pair}
use Rattle.cue_lists.specs.Cadences.{cadence_of, slot_frame, slot_from}
use Rattle.cue_lists.specs.Cadence.{Cadence}
use Rattle.cue_lists.proofs.CadenceLemmas.{frame_not_before, slot_not_before}
use Rattle.lanes.specs.declared.chunk.FieldChunk.{FieldChunk}
use Rattle.lanes.specs.ChannelLane.{channel_chunks, field_cue_chunks}
use Rattle.lanes.specs.FieldLane.{IsAllowedInField, end_of, field_lane}
use Rattle.lanes.specs.LaneEvents.{event_at}
use Rattle.lanes.specs.LaneTimeline.{lane_timeline, stands}
use Rattle.frame_carrier.specs.SlotLists.{slot_cues, slots_in_list}
use Rattle.lanes.specs.Timeline.{Timeline, repeat_of, slot}
use Rattle.lanes.proofs.DoublingLemmas.{at_unit, free_none, over_cases, unit_begins}
use Rattle.lanes.proofs.EventLemmas.{some_slot}
use Rattle.lanes.proofs.FieldLaneLemmas.{end_push}
use Rattle.frame_carrier.proofs.SlotLemmas.{slot_cues_formed, slot_sequence}
use Rattle.dual_fields.proofs.CaptionedLemmas.{channel_captioned}
use Rattle.dual_fields.proofs.ReadingLemmas.{null_code}
use Rattle.dual_fields.specs.Reading.{IsMarked}
use Rattle.lanes.specs.Placing.{IsPlaced}
use Rattle.dual_fields.specs.declared.part.Part.{Part}
use Rattle.dual_fields.specs.ChannelParts.{channel_parts, later_part, parts_from, parts_of}
use Rattle.dual_fields.specs.Lanes.{AreCues, IsBehind, part_chunks}
use Rattle.dual_fields.specs.Sharing.{IsFor, is_text}
use Rattle.dual_fields.specs.Together.{AreOfChannel, IsListed, IsOfChannel}
use Rattle.dual_fields.specs.Parts.{part_slots}
use Rattle.dual_fields.specs.Resuming.{opens}
use Rattle.dual_fields.proofs.LaneLemmas.{some_size}
use Rattle.dual_fields.proofs.LedLemmas.{opener_plain}
use Rattle.dual_fields.proofs.ListedLemmas.{channel_listed, channel_chunks_from_back}
use Rattle.xds_frames.proofs.BesideLemmas.{due_unit, slot_of_repeat, slot_of_unit}
use Rattle.xds_frames.specs.FreeSlots.{CaptionsLeaveFree, captions_of, frame_of_slot, free_in, is_loading}
use Rattle.xds_frames.specs.PacketTimeline.{IsLedClosed, LeaveFree}

-- a pair of captions isn't null
and_parts : (x y : Bool) → (x && y) ≡ true → (x ≡ true) × (y ≡ true)
and_parts true true is = (refl, refl)
and_parts true false is = cc
and_parts false y is = cc

not_null : (pair : Pair) → IsFor One (code_of pair) → is_null pair ≡ false
not_null pair own = by_null (is_null pair) refl
  where
    by_null : (b : Bool) → is_null pair ≡ b → is_null pair ≡ false
    by_null false test = test
    by_null true test =
        let both = and_parts (pair.a == 0x80) (pair.b == 0x80) test in
        let a : pair.a ≡ 0x80 = grind (arith, nat_tests) in
        let b : pair.b ≡ 0x80 = grind (arith, nat_tests) in
        let it : pair ≡ null_pair = ap (λ x. record { a = x; b = pair.b }) a ∙ ap (λ y. record { a = 0x80; b = y }) b in
        let wrong : IsFor One (code_of null_pair) = subst (λ p. IsFor One (code_of p)) it own in
        absurd (subst (IsFor One) null_code wrong)

-- no free slot lies in the time of a unit's cue
abbrev AreClosed : (ℕ → Bool) → List Part → Type 0
AreClosed free [] = ⊤
AreClosed free (part ∷ parts) = ((m : ℕ) → part.chunk.load ≤ m → m < part.chunk.until → free m ≡ false) × AreClosed free parts

-- a unit of the lane is of its channel
part_own : (parts : List Part) (fs : List ℕ) (n : ℕ) (unit : Unit) → AreOfChannel One parts → stands (part_chunks parts) fs n ≡ Some unit → IsOfChannel One unit
part_own [] fs n unit own is = cc
part_own (part ∷ parts) [] n unit own is = cc
part_own (part ∷ parts) (f ∷ fs) n unit own is = by_slot (eqb n f) refl (λ rest. part_own parts fs n unit own.2 rest)
  where
    by_slot : (b : Bool) → eqb n f ≡ b → (stands (part_chunks parts) fs n ≡ Some unit → IsOfChannel One unit) → IsOfChannel One unit
    by_slot true test rest =
        let it : Some part.chunk.unit ≡ Some unit = sym (at_unit part.chunk (part_chunks parts) f fs n true test) ∙ is in
        let it' : part.chunk.unit ≡ unit = cc in
        subst (IsOfChannel One) it' own.0
    by_slot false test rest = rest (sym (at_unit part.chunk (part_chunks parts) f fs n false test) ∙ is)

-- a unit follows those before it
behind_end : (events : List Event) (ps : List FieldChunk) (fs : List ℕ) (before : List (FieldChunk × ℕ)) (n : ℕ) (u : Unit) → IsPlaced (field_lane events) before ps fs
    → stands ps fs n ≡ Some u → end_of before ≤ n
behind_end events [] fs before n u placed is = cc
behind_end events (p ∷ ps) [] before n u placed is = cc
behind_end events (p ∷ ps) (f ∷ fs) before n u placed is = by_slot (eqb n f) refl (λ rest. behind_end events ps fs (before ++ (p, f) ∷ []) n u placed.1 rest)
  where
    by_slot : (b : Bool) → eqb n f ≡ b → (stands ps fs n ≡ Some u → end_of (before ++ (p, f) ∷ []) ≤ n) → end_of before ≤ n
    by_slot true test rest = let here : n ≡ f = grind (arith, nat_tests) in omega (arith, placed.0.behind)
    by_slot false test rest =
        let later = rest (sym (at_unit p ps f fs n false test) ∙ is) in
        omega (arith, placed.0.behind, end_push before p f, later)

module _ (events : List Event) (t : Timeline) (free : ℕ → Bool) where
  -- a cue's first unit, at a slot of its time
  record IsUp (former : Part) (end : ℕ) : Type 0 where
    at : ℕ
    before : at < end
    there : t at ≡ Some former.first
    control : is_text (code_of former.first.pair) ≡ false
    loaded : former.chunk.load ≤ at

  abbrev Up : Option Part → ℕ → Type 0
  Up None end = ⊤
  Up (Some former) end = IsUp former end

  up_next : (former : Option Part) (part : Part) (end f : ℕ) (later : Bool) → IsBehind later former part → Up former end → end ≤ f → t f ≡ Some part.chunk.unit
      → part.chunk.load ≤ f → IsUp part (f + part_slots part)
  up_next former part end f false begins up behind there loaded = record {
    at = f;
    before = let some = some_size part in omega arith;
    there = there ∙ ap (λ (u : Unit). Some u) (sym begins.first);
    control = opener_plain (code_of part.first.pair) begins.mode begins.opens_it;
    loaded = loaded;
  }
  up_next None part end f true continues up behind there loaded = absurd continues
  up_next (Some former) part end f true continues up behind there loaded = record {
    at = up.at;
    before = let low = up.before in omega arith;
    there = up.there ∙ ap (λ (u : Unit). Some u) (sym continues.first);
    control = ap (λ (u : Unit). is_text (code_of u.pair)) continues.first ∙ up.control;
    loaded = let low = up.loaded in let same = continues.load in omega arith;
  }

  -- a text unit is led to by the first unit of its cue
  led_here : (former : Option Part) (part : Part) (end f : ℕ) (later : Bool) → IsBehind later former part → Up former end → IsAllowedInField events end part.chunk f
      → ((m : ℕ) → part.chunk.load ≤ m → m < part.chunk.until → free m ≡ false) → is_text (code_of part.chunk.unit.pair) ≡ true → IsLedClosed t free f
  led_here former part end f false begins up allowed closed text =
      let plain : is_text (code_of part.chunk.unit.pair) ≡ false =
      opener_plain (code_of part.chunk.unit.pair) begins.mode (ap (λ (u : Unit). opens (code_of u.pair)) (sym begins.first) ∙ begins.opens_it) in
      absurd (cc)
  led_here None part end f true continues up allowed closed text = absurd continues
  led_here (Some former) part end f true continues up allowed closed text = record {
    at = up.at;
    before = let low = up.before in let behind = allowed.behind in omega arith;
    unit = former.first;
    there = up.there;
    control = up.control;
    closed = λ m high low.
        let loaded = up.loaded in
        let same = continues.load in
        let ended = allowed.ended in
        let some = some_size part in
        closed m (omega arith) (omega arith);
  }

  led_all : (former : Option Part) (parts : List Part) (fs : List ℕ) (before : List (FieldChunk × ℕ)) → Up former (end_of before) → AreCues former parts → AreClosed free parts
      → IsPlaced (field_lane events) before (part_chunks parts) fs → ((n : ℕ) (u : Unit) → stands (part_chunks parts) fs n ≡ Some u → t n ≡ Some u)
      → (n : ℕ) (unit : Unit) → stands (part_chunks parts) fs n ≡ Some unit → is_text (code_of unit.pair) ≡ true → IsLedClosed t free n
  led_all former [] fs before up cues closed placed stood n unit is text = cc
  led_all former (part ∷ parts) [] before up cues closed placed stood n unit is text = cc
  led_all former (part ∷ parts) (f ∷ fs) before up cues closed placed stood n unit is text = by_slot (eqb n f) refl
      (λ rest. led_all (Some part) parts fs (before ++ (part.chunk, f) ∷ [])
      (subst (IsUp part) (sym (end_push before part.chunk f)) (up_next former part (end_of before) f part.later cues.0 up placed.0.behind here placed.0.loaded))
      cues.1 closed.1 placed.1 stood_behind n unit rest text)
    where
      here : t f ≡ Some part.chunk.unit
      here = let test : eqb f f ≡ true = grind (arith, nat_tests) in stood f part.chunk.unit (at_unit part.chunk (part_chunks parts) f fs f true test)

      stood_behind : (m : ℕ) (u : Unit) → stands (part_chunks parts) fs m ≡ Some u → t m ≡ Some u
      stood_behind m u there =
          let high = behind_end events (part_chunks parts) fs (before ++ (part.chunk, f) ∷ []) m u placed.1 there in
          let some = some_size part in
          let end = end_push before part.chunk f in
          let test : eqb m f ≡ false = let later : f < m = omega arith in grind (arith, nat_tests) in
          stood m u (at_unit part.chunk (part_chunks parts) f fs m false test ∙ there)

      by_slot : (b : Bool) → eqb n f ≡ b → (stands (part_chunks parts) fs n ≡ Some unit → IsLedClosed t free n) → IsLedClosed t free n
      by_slot true test rest =
          let same : f ≡ n = grind (arith, nat_tests) in
          let it : Some part.chunk.unit ≡ Some unit = sym (at_unit part.chunk (part_chunks parts) f fs n true test) ∙ is in
          let it' : part.chunk.unit ≡ unit = cc in
          subst (IsLedClosed t free) same
          (led_here former part (end_of before) f part.later cues.0 up placed.0 closed.0 (ap (λ (u : Unit). is_text (code_of u.pair)) it' ∙ text))
      by_slot false test rest = rest (sym (at_unit part.chunk (part_chunks parts) f fs n false test) ∙ is)

-- a lane whose free slots have null pairs, and lie in no time of its cues, leaves them free
module _ (events : List Event) (parts : List Part) (fs : List ℕ) (free : ℕ → Bool)
    (listed : IsListed One (event_at events) parts) (placed : IsPlaced (field_lane events) [] (part_chunks parts) fs) (marked : IsMarked (lane_timeline (event_at events) (part_chunks parts) fs))
    (null : (n : ℕ) → free n ≡ true → is_null (slot (lane_timeline (event_at events) (part_chunks parts) fs) n) ≡ true) (closed : AreClosed free parts) where
  abbrev t : Timeline
  t = lane_timeline (event_at events) (part_chunks parts) fs

  own : (n : ℕ) (unit : Unit) → t n ≡ Some unit → IsFor One (code_of unit.pair)
  own n unit is =
      ⊎_elim
      (λ (event : event_at events n ≡ Some unit). (listed.events_own n unit event).own)
      (λ (stood : (event_at events n ≡ None) × (stands (part_chunks parts) fs n ≡ Some unit)). (part_own parts fs n unit listed.parts_own stood.1).own)
      (over_cases events (part_chunks parts) fs n unit is)

  taken : (n : ℕ) (pair : Pair) → slot t n ≡ pair → IsFor One (code_of pair) → free n ≡ false
  taken n pair is for_one = by_free (free n) refl
    where
      by_free : (b : Bool) → free n ≡ b → free n ≡ false
      by_free false none = none
      by_free true here = let wrong : true ≡ false = sym (ap is_null (sym is) ∙ null n here) ∙ not_null pair for_one in absurd (cc)

  nothing : (n : ℕ) → free n ≡ true → t n ≡ None
  nothing n here = by_unit (t n) refl
    where
      by_unit : (u : Option Unit) → t n ≡ u → t n ≡ None
      by_unit None is = is
      by_unit (Some unit) is = let none = taken n unit.pair (slot_of_unit t marked n unit is) (own n unit is) in absurd (cc)

  not_due : (n : ℕ) (pair : Pair) → repeat_of (t n) ≡ Some pair → free (suc n) ≡ false
  not_due n pair due =
      let d = due_unit (t n) pair due in
      taken (suc n) pair (slot_of_repeat t (suc n) pair due) (subst (λ p. IsFor One (code_of p)) d.1.1.0 (own n d.0 d.1.0))

  stood : (n : ℕ) (u : Unit) → stands (part_chunks parts) fs n ≡ Some u → t n ≡ Some u
  stood n u is =
      let b = (unit_begins events [] (part_chunks parts) fs n u placed is).0 in
      let size = some_slot n b.chunk in
      ap (λ e. option_or e (stands (part_chunks parts) fs n)) (free_none events n (b.allowed.free n (omega arith) size)) ∙ is

  leaves_free : LeaveFree t free
  leaves_free = record {
    marked = marked;
    own = own;
    nothing = nothing;
    not_due = not_due;
    led = λ n unit is text.
        ⊎_elim
        (λ (event : event_at events n ≡ Some unit). let plain = listed.controls n unit event in absurd (cc))
        (λ (there : (event_at events n ≡ None) × (stands (part_chunks parts) fs n ≡ Some unit)).
        led_all events t free None parts fs [] tt listed.cues closed placed stood n unit there.1 text)
        (over_cases events (part_chunks parts) fs n unit is);
  }

-- a slot before a frame's first one lies in an earlier frame
shown_in : (c : Cadence) (show m : ℕ) → m < slot_from c show → slot_frame c m < show
shown_in c show m h =
    ⊎_elim
    (λ (below : slot_frame c m < show). below)
    (λ (above : show ≤ slot_frame c m). let wrong = slot_not_before c show m above in absurd (omega arith))
    (cases_lt (slot_frame c m) show)

or_true : (a b : Bool) → a ≡ true → (a || b) ≡ true
or_true a b is = rw is refl

or_second : (a b : Bool) → b ≡ true → (a || b) ≡ true
or_second true b is = refl
or_second false b is = is

closed_later : (free : ℕ → Bool) (first : Unit) (number : ℕ) (cue : Cue) (units : List Unit) → ((m : ℕ) → cue.load ≤ m → m < cue.show → free m ≡ false)
    → AreClosed free (map (later_part first) (map (λ (unit : Unit). record { unit = unit; load = cue.load; until = cue.show; cue = number }) units))
closed_later free first number cue [] closed = tt
closed_later free first number cue (unit ∷ units) closed = (closed, closed_later free first number cue units closed)

closed_cue : (free : ℕ → Bool) (number : ℕ) (cue : Cue) (units : List Unit) → ((m : ℕ) → cue.load ≤ m → m < cue.show → free m ≡ false)
    → AreClosed free (parts_of (map (λ (unit : Unit). record { unit = unit; load = cue.load; until = cue.show; cue = number }) units))
closed_cue free number cue [] closed = tt
closed_cue free number cue (unit ∷ units) closed = (closed, closed_later free unit number cue units closed)

closed_both : (free : ℕ → Bool) (one two : List Part) → AreClosed free one → AreClosed free two → AreClosed free (one ++ two)
closed_both free [] two first second = second
closed_both free (part ∷ one) two first second = (first.0, closed_both free one two first.1 second)

closed_parts : (free : ℕ → Bool) (c : Cadence) (number : ℕ) (cues : List Cue) → ((m : ℕ) → is_loading Cc3 cues (slot_frame c m) ≡ true → free m ≡ false)
    → AreClosed free (parts_from Cc3 number (cues_in_slots c cues))
closed_parts free c number [] closed = tt
closed_parts free c number (cue ∷ cues) closed =
    closed_both free (if is_on Cc3 cue.kind then parts_of (field_cue_chunks number (timed_in_slots c cue)) else []) (parts_from Cc3 (suc number) (cues_in_slots c cues))
    (by_channel (is_on Cc3 cue.kind) refl)
    (closed_parts free c (suc number) cues (λ m is. closed m (or_second (is_on Cc3 cue.kind && (nat_le cue.load (slot_frame c m) && nat_lt (slot_frame c m) cue.show)) (is_loading Cc3 cues (slot_frame c m)) is)))
  where
    loading : is_on Cc3 cue.kind ≡ true → (m : ℕ) → slot_from c cue.load ≤ m → m < slot_from c cue.show → free m ≡ false
    loading on m high low =
        let above = le-leb cue.load (slot_frame c m) (frame_not_before c cue.load m high) in
        let below = lt-ltb (slot_frame c m) cue.show (shown_in c cue.show m low) in
        closed m (or_true (is_on Cc3 cue.kind && (nat_le cue.load (slot_frame c m) && nat_lt (slot_frame c m) cue.show)) (is_loading Cc3 cues (slot_frame c m)) (rw (on, above, below) refl))

    by_channel : (b : Bool) → is_on Cc3 cue.kind ≡ b → AreClosed free (if b then parts_of (field_cue_chunks number (timed_in_slots c cue)) else [])
    by_channel false on = tt
    by_channel true on = closed_cue free number (timed_in_slots c cue) (units_of (timed_in_slots c cue)) (loading on)

pub captions_leave_free : CaptionsLeaveFree
captions_leave_free list slots formed ruled earliest =
    let cues = slot_cues list Cc3 in
    let events = channel_events Cc3 (slot_cues list Cc3) in
    let free = free_in list slots in
    let back = channel_chunks_from_back Cc3 1 (slot_cues list Cc3) in
    let captioned = channel_captioned list Cc3 slots formed ruled earliest in
    let marked : IsMarked (lane_timeline (event_at events) (channel_chunks Cc3 cues) slots) = record { marked = captioned.marked; spaced = captioned.spaced } in
    subst (λ (ps : List FieldChunk). LeaveFree (lane_timeline (event_at (channel_events Cc3 (slot_cues list Cc3))) ps slots) (free_in list slots)) back
    (leaves_free events (channel_parts Cc3 cues) slots free
    (channel_listed Cc3 (slots_in_list list Cc3) cues (slot_cues_formed list formed Cc3) (slot_sequence list ruled Cc3))
    (subst (λ (ps : List FieldChunk). IsPlaced (field_lane (channel_events Cc3 (slot_cues list Cc3))) [] ps slots) (sym back) earliest.placed)
    (subst (λ (ps : List FieldChunk). IsMarked (lane_timeline (event_at (channel_events Cc3 (slot_cues list Cc3))) ps slots)) (sym back) marked)
    (λ n here.
    subst (λ (ps : List FieldChunk). is_null (slot (lane_timeline (event_at (channel_events Cc3 (slot_cues list Cc3))) ps slots) n) ≡ true) (sym back)
    (and_parts (not (is_loading Cc3 list.cues (frame_of_slot list n))) (is_null (slot (captions_of list slots) n)) here).1)
    (closed_parts free (cadence_of list.rate Cc3) 1 list.cues (λ m is. rw is refl)))
