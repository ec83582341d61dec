-- What a viewer sees of a field that two cue lists share.
use Rattle.std.proofs.Common.{◌≡◌, ℕ, zero, suc, ◌+◌, ◌==◌, ◌&&◌, ◌||◌, not, is_some, Bool, true, false, List, [], ◌∷◌, ◌++◌, Option, Some, None, All, option_map, refl, sym, ap, ◌∙◌, subst, arith}
use Rattle.std.specs.Prelude.{if◌then◌else◌}
use Rattle.std.specs.List.{AllByRecursion}
use Rattle.std.specs.Option.{option_or}
use Rattle.std.proofs.lemmas.Bool.Decides.{nat_tests}
use Rattle.line21_codes.specs.declared.channels.Chan.{Chan}
use Rattle.line21_codes.specs.declared.channels.DataChannel.TheVariants.{One, Two}
use Rattle.line21_codes.specs.declared.channels.FieldNumber.{FieldNumber}
use Rattle.line21_codes.specs.declared.codes.Code.{Code}
use Rattle.line21_codes.specs.declared.codes.Code.TheVariants.{Null, Text, Xds, Control}
use Rattle.line21_codes.specs.Channels.{field_of_channel}
use Rattle.line21_codes.specs.Reading.{code_of}
use Rattle.line21_codes.specs.Writable.{IsWritable, is_doubled}
use Rattle.line21_codes.proofs.CodeLemmas.{is_control-code_of, is_control-written, written-code_of}
use Rattle.cue_lists.specs.AuthoredGrid.{IsSettledFor, authored_grid}
use Rattle.cue_lists.specs.Cues.{IsCueFormed}
use Rattle.cue_lists.specs.declared.cue.Cue.{Cue}
use Rattle.line21_author.specs.Channels.{cues_on}
use Rattle.line21_author.specs.CueEvents.{channel_events}
use Rattle.line21_author.specs.declared.event.Event.{Event}
use Rattle.line21_author.specs.declared.unit.Unit.{Unit}
use Rattle.line21_author.proofs.SlotSequenceLemmas.{AreInSlots}
use Rattle.line21_screen.specs.Channels.{ChannelState}
use Rattle.line21_screen.specs.Fields.{channel}
use Rattle.line21_screen.specs.Meaning.{after}
use Rattle.lanes.specs.declared.chunk.FieldChunk.{FieldChunk}
use Rattle.lanes.specs.ChannelLane.{channel_chunks}
use Rattle.lanes.specs.FieldLane.{end_of, field_lane}
use Rattle.lanes.specs.LaneEvents.{IsFree, event_at}
use Rattle.lanes.specs.LaneTimeline.{lane_timeline, stands}
use Rattle.lanes.specs.Timeline.{Timeline, slot}
use Rattle.lanes.proofs.FieldLaneLemmas.{end_push}
use Rattle.line21_shown.specs.Doing.{does}
use Rattle.line21_shown.specs.Reading.{acts, does_unit, pairs_before}
use Rattle.line21_shown.proofs.SequenceLemmas.{channel_shown}
use Rattle.lanes.specs.Placing.{IsPlaced}
use Rattle.dual_fields.specs.Parts.{part_slots}
use Rattle.dual_fields.specs.ResumedLane.{ResumesAt, Stand}
use Rattle.dual_fields.specs.Slots.{Slots}
use Rattle.dual_fields.specs.Spans.{in_spans}
use Rattle.dual_fields.specs.declared.part.Part.{Part}
use Rattle.dual_fields.specs.Lanes.{AreCues, AreQuiet, IsBehind, part_chunks}
use Rattle.dual_fields.specs.ChannelParts.{channel_parts}
use Rattle.dual_fields.specs.Resuming.{keeps_mode, opens}
use Rattle.dual_fields.specs.Seen.{field_timeline, as_second, first_events, second_events, second_part, second_parts, second_timeline, second_unit}
use Rattle.dual_fields.specs.Sharing.{IsFor, is_text}
use Rattle.dual_fields.specs.FieldSlots.{first_slots, holds, second_slots}
use Rattle.dual_fields.specs.Together.{AreOfChannel, AreTogether, IsListed, IsOfChannel}
use Rattle.dual_fields.proofs.ListedLemmas.{channel_listed, channel_chunks_from_back}
use Rattle.dual_fields.proofs.TogetherLemmas.{both_not, together_alone}

-- the cues of both lists keep the rules, no slot is held by events of both, and the units are placed
pub record IsShared (of_list : Chan) (slots : ℕ) (cues others : List Cue) (fs gs : List ℕ) (rs qs : List (Option ℕ)) : Type 0 where
  pub formed : All IsCueFormed cues
  pub others_formed : All IsCueFormed others
  pub sequence : AreInSlots slots (cues_on of_list cues)
  pub others_sequence : AreInSlots slots (cues_on of_list others)
  pub clash : (n : ℕ) → holds (first_events of_list cues) n ≡ true → holds (second_events of_list others) n ≡ false
  pub stand : Stand (first_slots (first_events of_list cues) (second_events of_list others)) 0 (channel_parts of_list cues) fs rs
  pub beside : Stand (second_slots (first_events of_list cues) (second_events of_list others) (in_spans (channel_parts of_list cues) fs)) 0
      (second_parts (field_of_channel of_list) (channel_parts of_list others)) gs qs

-- at a slot that is settled for it each channel shows what its own list authors
pub record EachShows (of_list : Chan) (cues others : List Cue) (fs gs : List ℕ) (rs qs : List (Option ℕ)) (k : ℕ) : Type 0 where
  pub first : AllByRecursion (IsSettledFor k) (cues_on of_list cues)
      → (channel One (after (field_of_channel of_list) (pairs_before (slot (field_timeline of_list cues others fs gs rs qs)) (suc k)))).displayed
      ≡ authored_grid of_list cues k
  pub second : AllByRecursion (IsSettledFor k) (cues_on of_list others)
      → (channel Two (after (field_of_channel of_list) (pairs_before (slot (field_timeline of_list cues others fs gs rs qs)) (suc k)))).displayed
      ≡ authored_grid of_list others k

-- a code for data channel 2 does what it does for data channel 1
second_writable : (code : Code) → IsWritable code → IsWritable (as_second code)
second_writable Null w = w
second_writable (Text first second) w = w
second_writable (Xds first second) w = w
second_writable (Control second control) w = w

second_own_code : (code : Code) → IsFor One code → IsFor Two (as_second code)
second_own_code Null own = own
second_own_code (Text first second) own = own
second_own_code (Xds first second) own = own
second_own_code (Control second control) own = refl

second_does : (code : Code) (s : ChannelState) → does (as_second code) s ≡ does code s
second_does Null s = refl
second_does (Text first second) s = refl
second_does (Xds first second) s = refl
second_does (Control second control) s = refl

second_keeps : (code : Code) → keeps_mode (as_second code) ≡ keeps_mode code
second_keeps Null = refl
second_keeps (Text first second) = refl
second_keeps (Xds first second) = refl
second_keeps (Control second control) = refl

second_opens : (code : Code) → opens (as_second code) ≡ opens code
second_opens Null = refl
second_opens (Text first second) = refl
second_opens (Xds first second) = refl
second_opens (Control second control) = refl

second_text : (code : Code) → is_text (as_second code) ≡ is_text code
second_text Null = refl
second_text (Text first second) = refl
second_text (Xds first second) = refl
second_text (Control second control) = refl

second_doubled : (code : Code) → is_doubled (as_second code) ≡ is_doubled code
second_doubled Null = refl
second_doubled (Text first second) = refl
second_doubled (Xds first second) = refl
second_doubled (Control second control) = refl

module _ (f : FieldNumber) where
  read_second : (unit : Unit) → IsOfChannel One unit → code_of (second_unit f unit).pair ≡ as_second (code_of unit.pair)
  read_second unit own = written-code_of f (as_second (code_of unit.pair)) (second_writable (code_of unit.pair) own.writable)

  second_own : (unit : Unit) → IsOfChannel One unit → IsOfChannel Two (second_unit f unit)
  second_own unit own = record {
    marked =
        is_control-written f (as_second (code_of unit.pair)) (second_writable (code_of unit.pair) own.writable)
        ∙ second_doubled (code_of unit.pair) ∙ sym (is_control-code_of unit.pair) ∙ own.marked;
    own = subst (IsFor Two) (sym (read_second unit own)) (second_own_code (code_of unit.pair) own.own);
    writable = subst IsWritable (sym (read_second unit own)) (second_writable (code_of unit.pair) own.writable);
  }

  -- the second timeline has a unit where the first has
  from_first : (u : Option Unit) (v : Unit) → option_map (second_unit f) u ≡ Some v → (w : Unit) × ((u ≡ Some w) × (v ≡ second_unit f w))
  from_first None v is = cc
  from_first (Some w) v is = let it : v ≡ second_unit f w = cc in (w, (refl, it))

  none_second : (u : Option Unit) → u ≡ None → option_map (second_unit f) u ≡ None
  none_second u is = rw is refl

  acts_second : (t : Timeline) → ((n : ℕ) (unit : Unit) → t n ≡ Some unit → IsOfChannel One unit) → (n : ℕ) → acts (second_timeline f t) n ≡ acts t n
  acts_second t own zero = refl
  acts_second t own (suc n) = by_unit (acts_second t own n) (t n) refl
    where
      by_unit : acts (second_timeline f t) n ≡ acts t n → (u : Option Unit) → t n ≡ u
          → does_unit (option_map (second_unit f) (t n)) (acts (second_timeline f t) n) ≡ does_unit (t n) (acts t n)
      by_unit before None is = rw is before
      by_unit before (Some unit) is =
          rw is
          (ap (λ code. does code (acts (second_timeline f t) n)) (read_second unit (own n unit is))
          ∙ second_does (code_of unit.pair) (acts (second_timeline f t) n) ∙ ap (does (code_of unit.pair)) before)

  stands_second : (parts : List Part) (fs : List ℕ) (n : ℕ) → stands (part_chunks (second_parts f parts)) fs n ≡ option_map (second_unit f) (stands (part_chunks parts) fs n)
  stands_second [] fs n = refl
  stands_second (part ∷ parts) [] n = refl
  stands_second (part ∷ parts) (g ∷ fs) n = by_test (n == g) (stands_second parts fs n)
    where
      by_test : (b : Bool) → stands (part_chunks (second_parts f parts)) fs n ≡ option_map (second_unit f) (stands (part_chunks parts) fs n)
          → (if b then Some (second_unit f part.chunk.unit) else stands (part_chunks (second_parts f parts)) fs n)
          ≡ option_map (second_unit f) (if b then Some part.chunk.unit else stands (part_chunks parts) fs n)
      by_test true rest = refl
      by_test false rest = rest

  first_second : (u v : Option Unit) → option_or (option_map (second_unit f) u) (option_map (second_unit f) v) ≡ option_map (second_unit f) (option_or u v)
  first_second None v = refl
  first_second (Some u) v = refl

  plain_second : (events : Timeline) (parts : List Part) (fs : List ℕ) (n : ℕ) → lane_timeline (second_timeline f events) (part_chunks (second_parts f parts)) fs n ≡ second_timeline f (lane_timeline events (part_chunks parts) fs) n
  plain_second events parts fs n =
      ap (option_or (second_timeline f events n)) (stands_second parts fs n) ∙ first_second (events n) (stands (part_chunks parts) fs n)

  -- the second list's lane
  behind_second : (later : Bool) (former : Option Part) (part : Part) → IsOfChannel One part.chunk.unit → IsOfChannel One part.first → IsBehind later former part
      → IsBehind later (option_map (second_part f) former) (second_part f part)
  behind_second false former part own first is = record {
    first = ap (second_unit f) is.first;
    mode = is.mode;
    opens_it = ap opens (read_second part.first first) ∙ second_opens (code_of part.first.pair) ∙ is.opens_it;
    doubled = is.doubled;
  }
  behind_second true None part own first is = absurd is
  behind_second true (Some former) part own first is = record {
    first = ap (second_unit f) is.first;
    load = is.load;
    keeps_it = ap keeps_mode (read_second part.chunk.unit own) ∙ second_keeps (code_of part.chunk.unit.pair) ∙ is.keeps_it;
  }

  cues_second : (former : Option Part) (parts : List Part) → AreOfChannel One parts → AreCues former parts → AreCues (option_map (second_part f) former) (second_parts f parts)
  cues_second former [] own cues = tt
  cues_second former (part ∷ parts) own cues = (behind_second part.later former part own.0 own.1 cues.0, cues_second (Some part) parts own.2 cues.1)

  parts_second : (parts : List Part) → AreOfChannel One parts → AreOfChannel Two (second_parts f parts)
  parts_second [] own = tt
  parts_second (part ∷ parts) own = (second_own part.chunk.unit own.0, second_own part.first own.1, parts_second parts own.2)

  module _ (events : Timeline) (parts : List Part) (listed : IsListed One events parts) where
    events_second : (n : ℕ) (unit : Unit) → second_timeline f events n ≡ Some unit → (w : Unit) × ((events n ≡ Some w) × (unit ≡ second_unit f w))
    events_second n unit is = from_first (events n) unit is

    quiet_second : (ps : List Part) → AreQuiet events ps → AreQuiet (second_timeline f events) (second_parts f ps)
    quiet_second [] quiet = tt
    quiet_second (part ∷ ps) quiet = (
      λ n unit high low is.
          let w = events_second n unit is in
          ap (λ (u : Unit). keeps_mode (code_of u.pair)) w.1.1 ∙ ap keeps_mode (read_second w.0 (listed.events_own n w.0 w.1.0)) ∙ second_keeps (code_of w.0.pair)
          ∙ quiet.0 n w.0 high low w.1.0,
      quiet_second ps quiet.1,
    )

    pub listed_second : IsListed Two (second_timeline f events) (second_parts f parts)
    listed_second = record {
      apart = λ n unit is. let w = events_second n unit is in none_second (events (suc n)) (listed.apart n w.0 w.1.0);
      controls = λ n unit is.
          let w = events_second n unit is in
          ap (λ (u : Unit). is_text (code_of u.pair)) w.1.1 ∙ ap is_text (read_second w.0 (listed.events_own n w.0 w.1.0)) ∙ second_text (code_of w.0.pair)
          ∙ listed.controls n w.0 w.1.0;
      events_own = λ n unit is.
          let w = events_second n unit is in
          subst (IsOfChannel Two) (sym w.1.1) (second_own w.0 (listed.events_own n w.0 w.1.0));
      quiet = quiet_second parts listed.quiet;
      cues = cues_second None parts listed.parts_own listed.cues;
      parts_own = parts_second parts listed.parts_own;
    }

    -- what begins on the second list's plain lane is the channel's
    stands_own : (ps : List Part) (fs : List ℕ) (n : ℕ) (unit : Unit) → AreOfChannel One ps → stands (part_chunks ps) fs n ≡ Some unit → IsOfChannel One unit
    stands_own [] fs n unit own is = cc
    stands_own (part ∷ ps) [] n unit own is = cc
    stands_own (part ∷ ps) (g ∷ fs) n unit own is = by_test (n == g) refl (λ rest. stands_own ps fs n unit own.2 rest)
      where
        by_test : (b : Bool) → (n == g) ≡ b → (stands (part_chunks ps) fs n ≡ Some unit → IsOfChannel One unit) → IsOfChannel One unit
        by_test true test rest =
            let it : Some part.chunk.unit ≡ Some unit = sym (rw test refl) ∙ is in
            let same : part.chunk.unit ≡ unit = cc in subst (IsOfChannel One) same own.0
        by_test false test rest = let on : stands (part_chunks ps) fs n ≡ Some unit = sym (rw test refl) ∙ is in rest on

    plain_own : (fs : List ℕ) (n : ℕ) (unit : Unit) → lane_timeline events (part_chunks parts) fs n ≡ Some unit → IsOfChannel One unit
    plain_own fs n unit is = by_event (events n) refl
      where
        by_event : (u : Option Unit) → events n ≡ u → IsOfChannel One unit
        by_event None at = stands_own parts fs n unit listed.parts_own (sym (ap (λ u. option_or u (stands (part_chunks parts) fs n)) at) ∙ is)
        by_event (Some w) at =
            let it : Some w ≡ Some unit = sym (ap (λ u. option_or u (stands (part_chunks parts) fs n)) at) ∙ is in
            let same : w ≡ unit = cc in subst (IsOfChannel One) same (listed.events_own n w at)

  -- where units stand in the second lane, the first channel's units stand in a lane of their own
  back : (slots : Slots) (end : ℕ) (parts : List Part) (fs : List ℕ) (rs : List (Option ℕ)) → Stand slots end (second_parts f parts) fs rs → Stand slots end parts fs rs
  back slots end [] [] [] stand = tt
  back slots end [] [] (r ∷ rs) stand = absurd stand
  back slots end [] (g ∷ fs) rs stand = absurd stand
  back slots end (part ∷ parts) [] rs stand = absurd stand
  back slots end (part ∷ parts) (g ∷ fs) [] stand = absurd stand
  back slots end (part ∷ parts) (g ∷ fs) (r ∷ rs) stand = (
    record { behind = stand.0.behind; loaded = stand.0.loaded; ended = stand.0.ended; free = stand.0.free; resumed = stand.0.resumed },
    resumes r stand.1,
    back slots (g + part_slots part) parts fs rs stand.2,
  )
    where
      resumes : (q : Option ℕ) → ResumesAt slots end (second_part f part) g q → ResumesAt slots end part g q
      resumes None is = is
      resumes (Some at) is = is

-- a slot that no event holds
free_of : (es : List Event) (n : ℕ) → event_at es n ≡ None → ((m : ℕ) → m + 1 ≡ n → event_at es m ≡ None) → IsFree es n
free_of [] n none before = tt
free_of (e ∷ es) n none before = (
  λ (same : e.slot ≡ n). let test : (n == e.slot) ≡ true = grind (arith, nat_tests) in
      let wrong : Some (record { pair = e.pair; doubled = true }) ≡ None = sym (first_at n true test) ∙ none in absurd (cc),
  λ (same : e.slot + 1 ≡ n). let test : (e.slot == e.slot) ≡ true = grind (arith, nat_tests) in
      let wrong : Some (record { pair = e.pair; doubled = true }) ≡ None = sym (first_at e.slot true test) ∙ before e.slot same in absurd (cc),
  free_of es n (rest_none n none) (λ m is. rest_none m (before m is)),
)
  where
    first_at : (m : ℕ) (b : Bool) → (m == e.slot) ≡ b → event_at (e ∷ es) m ≡ (if b then Some (record { pair = e.pair; doubled = true }) else event_at es m)
    first_at m b test = rw test refl

    rest_none : (m : ℕ) → event_at (e ∷ es) m ≡ None → event_at es m ≡ None
    rest_none m is = by_test (m == e.slot) refl
      where
        by_test : (b : Bool) → (m == e.slot) ≡ b → event_at es m ≡ None
        by_test true test = let wrong : Some (record { pair = e.pair; doubled = true }) ≡ None = sym (first_at m true test) ∙ is in absurd (cc)
        by_test false test = sym (first_at m false test) ∙ is

no_unit : (u : Option Unit) → is_some u ≡ false → u ≡ None
no_unit None is = refl
no_unit (Some unit) is = cc

pub free_unless : (es : List Event) (n : ℕ) → holds (event_at es) n ≡ false → IsFree es n
free_unless es zero is = free_of es zero (no_unit (event_at es zero) is) (λ m e. absurd (omega arith))
free_unless es (suc n) is =
    let parts = either_false (is_some (event_at es (suc n))) (is_some (event_at es n)) is in
    free_of es (suc n) (no_unit (event_at es (suc n)) parts.0)
    (λ m e. let same : m ≡ n = omega arith in ap (event_at es) same ∙ no_unit (event_at es n) parts.1)
  where
    either_false : (a b : Bool) → (a || b) ≡ false → (a ≡ false) × (b ≡ false)
    either_false false b is = (refl, is)
    either_false true b is = cc

-- where units stand, and come again, they are placed in a lane of their own events
stand_placed : (events : List Event) (slots : Slots) → ((n : ℕ) → slots.free n ≡ true → IsFree events n) → (before : List (FieldChunk × ℕ)) (end : ℕ) → end_of before ≡ end
    → (parts : List Part) (fs : List ℕ) (rs : List (Option ℕ)) → Stand slots end parts fs rs → IsPlaced (field_lane events) before (part_chunks parts) fs
stand_placed events slots free before end at [] [] rs stand = tt
stand_placed events slots free before end at [] (g ∷ fs) rs stand = absurd stand
stand_placed events slots free before end at (part ∷ parts) [] rs stand = absurd stand
stand_placed events slots free before end at (part ∷ parts) (g ∷ fs) [] stand = absurd stand
stand_placed events slots free before end at (part ∷ parts) (g ∷ fs) (r ∷ rs) stand = (
  record {
    behind = omega (arith, at, stand.0.behind);
    loaded = stand.0.loaded;
    ended = stand.0.ended;
    free = λ n high low. free n (stand.0.free n high low);
  },
  stand_placed events slots free (before ++ (part.chunk, g) ∷ []) (g + part_slots part) (end_push before part.chunk g) parts fs rs stand.2,
)

pub second_not : (a b c : Bool) → (not a && (not b && not c)) ≡ true → b ≡ false
second_not false b c is = (both_not b c is).0
second_not true b c is = cc

some_second : (f : FieldNumber) (u : Option Unit) → is_some (option_map (second_unit f) u) ≡ is_some u
some_second f None = refl
some_second f (Some unit) = refl

pub holds_second : (f : FieldNumber) (events : Timeline) (n : ℕ) → holds (second_timeline f events) n ≡ holds events n
holds_second f events zero = some_second f (events zero)
holds_second f events (suc n) = rw (some_second f (events (suc n)), some_second f (events n)) refl

module _ (of_list : Chan) (slots : ℕ) (cues others : List Cue) (fs gs : List ℕ) (rs qs : List (Option ℕ)) (are : IsShared of_list slots cues others fs gs rs qs) where
  f : FieldNumber
  f = field_of_channel of_list

  listed : IsListed One (first_events of_list cues) (channel_parts of_list cues)
  listed = channel_listed of_list slots cues are.formed are.sequence

  others_listed : IsListed One (first_events of_list others) (channel_parts of_list others)
  others_listed = channel_listed of_list slots others are.others_formed are.others_sequence

  pub together : AreTogether (first_events of_list cues) (second_events of_list others) (channel_parts of_list cues) (second_parts (field_of_channel of_list) (channel_parts of_list others)) fs gs rs qs
  together = record {
    first = listed;
    second = listed_second (field_of_channel of_list) (first_events of_list others) (channel_parts of_list others) others_listed;
    clash = are.clash;
    stand = are.stand;
    beside = are.beside;
  }

  placed : IsPlaced (field_lane (channel_events of_list cues)) [] (channel_chunks of_list cues) fs
  placed =
      subst (λ (l : List FieldChunk). IsPlaced (field_lane (channel_events of_list cues)) [] l fs) (channel_chunks_from_back of_list 1 cues)
      (stand_placed (channel_events of_list cues) (first_slots (first_events of_list cues) (second_events of_list others))
      (λ n free. free_unless (channel_events of_list cues) n (both_not (holds (first_events of_list cues) n) (holds (second_events of_list others) n) free).0)
      [] 0 refl (channel_parts of_list cues) fs rs are.stand)

  others_placed : IsPlaced (field_lane (channel_events of_list others)) [] (channel_chunks of_list others) gs
  others_placed =
      subst (λ (l : List FieldChunk). IsPlaced (field_lane (channel_events of_list others)) [] l gs) (channel_chunks_from_back of_list 1 others)
      (stand_placed (channel_events of_list others) (second_slots (first_events of_list cues) (second_events of_list others) (in_spans (channel_parts of_list cues) fs))
      (λ n free. free_unless (channel_events of_list others) n
      (sym (holds_second (field_of_channel of_list) (first_events of_list others) n)
      ∙ second_not (holds (first_events of_list cues) n) (holds (second_events of_list others) n) (in_spans (channel_parts of_list cues) fs n) free))
      [] 0 refl (channel_parts of_list others) gs qs
      (back (field_of_channel of_list) (second_slots (first_events of_list cues) (second_events of_list others) (in_spans (channel_parts of_list cues) fs)) 0 (channel_parts of_list others) gs qs are.beside))

  plain_is : (all : List Cue) (hs : List ℕ) (n : ℕ) → lane_timeline (first_events of_list all) (part_chunks (channel_parts of_list all)) hs n ≡ lane_timeline (event_at (channel_events of_list all)) (channel_chunks of_list all) hs n
  plain_is all hs n = ap (λ (l : List FieldChunk). option_or (event_at (channel_events of_list all) n) (stands l hs n)) (channel_chunks_from_back of_list 1 all)

  acts_same : (t u : Timeline) → ((n : ℕ) → t n ≡ u n) → (n : ℕ) → acts t n ≡ acts u n
  acts_same t u same zero = refl
  acts_same t u same (suc n) = ap (λ x. does_unit x (acts t n)) (same n) ∙ ap (does_unit (u n)) (acts_same t u same n)

  shows : (k : ℕ) → EachShows of_list cues others fs gs rs qs k
  shows k =
      let alone = together_alone (field_of_channel of_list) (first_events of_list cues) (second_events of_list others) (channel_parts of_list cues)
      (second_parts (field_of_channel of_list) (channel_parts of_list others)) fs gs rs qs together (suc k) in
      record {
        first = λ settled.
            ap (λ (s : ChannelState). s.displayed) alone.first
            ∙ ap (λ (s : ChannelState). s.displayed) (acts_same (lane_timeline (first_events of_list cues) (part_chunks (channel_parts of_list cues)) fs)
            (lane_timeline (event_at (channel_events of_list cues)) (channel_chunks of_list cues) fs) (plain_is cues fs) (suc k))
            ∙ channel_shown slots of_list cues fs are.formed are.sequence placed k settled;
        second = λ settled.
            ap (λ (s : ChannelState). s.displayed) alone.second
            ∙ ap (λ (s : ChannelState). s.displayed) (acts_same (lane_timeline (second_events of_list others) (part_chunks (second_parts (field_of_channel of_list) (channel_parts of_list others))) gs)
            (second_timeline (field_of_channel of_list) (lane_timeline (first_events of_list others) (part_chunks (channel_parts of_list others)) gs))
            (plain_second (field_of_channel of_list) (first_events of_list others) (channel_parts of_list others) gs) (suc k))
            ∙ ap (λ (s : ChannelState). s.displayed) (acts_second (field_of_channel of_list) (lane_timeline (first_events of_list others) (part_chunks (channel_parts of_list others)) gs)
            (plain_own (field_of_channel of_list) (first_events of_list others) (channel_parts of_list others) others_listed gs) (suc k))
            ∙ ap (λ (s : ChannelState). s.displayed) (acts_same (lane_timeline (first_events of_list others) (part_chunks (channel_parts of_list others)) gs)
            (lane_timeline (event_at (channel_events of_list others)) (channel_chunks of_list others) gs) (plain_is others gs) (suc k))
            ∙ channel_shown slots of_list others gs are.others_formed are.others_sequence others_placed k settled;
      }

-- in a field that two lists share each channel shows what its own list authors
pub field_seen : (of_list : Chan) (slots : ℕ) (cues others : List Cue) (fs gs : List ℕ) (rs qs : List (Option ℕ))
    → IsShared of_list slots cues others fs gs rs qs → (k : ℕ) → EachShows of_list cues others fs gs rs qs k
field_seen of_list slots cues others fs gs rs qs are k = shows of_list slots cues others fs gs rs qs are k
