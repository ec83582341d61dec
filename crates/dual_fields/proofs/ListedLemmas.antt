-- The lane of a channel's cues, as two lanes in one field ask for it.
use Rattle.std.proofs.Common.{◌≡◌, ℕ, suc, ◌+◌, ◌<◌, ◌≤◌, ◌==◌, Bool, true, false, List, [], ◌∷◌, ◌++◌, map, Option, Some, None, All, refl, sym, ap, ◌∙◌, subst, arith, ◌⊎◌, inl, inr, ⊎_elim}
use Rattle.std.specs.Prelude.{⊤, ◌≢◌, if◌then◌else◌}
use Rattle.std.specs.List.{AllByRecursion, flat_map}
use Rattle.std.specs.Option.{option_or}
use Rattle.std.proofs.lemmas.Bool.{cases_lt}
use Rattle.std.proofs.lemmas.Bool.Decides.{nat_tests}
use Rattle.std.proofs.lemmas.List.{map-append}
use Rattle.std.proofs.lemmas.List.Elements.{All-head, All-tail}
use Rattle.line21_codes.specs.declared.channels.Chan.{Chan}
use Rattle.line21_codes.specs.declared.channels.DataChannel.TheVariants as data_channels
use Rattle.line21_codes.specs.declared.channels.FieldNumber.{FieldNumber}
use Rattle.line21_codes.specs.declared.codes.Code.{Code}
use Rattle.line21_codes.specs.declared.codes.Code.TheVariants.{Null, Text, Xds, Control}
use Rattle.line21_codes.specs.declared.codes.Control.TheVariants.{Cr, Edm, Enm, Eoc, Rcl, Rdc, Ru}
use Rattle.line21_codes.specs.Channels.{field_of_channel}
use Rattle.line21_codes.specs.Reading.{code_of}
use Rattle.line21_codes.specs.Writable.{IsWritable}
use Rattle.line21_codes.specs.Writing.{pair_of_code}
use Rattle.line21_codes.proofs.CodeLemmas.{written-code_of}
use Rattle.cue_lists.specs.Cues.{IsCueFormed}
use Rattle.cue_lists.specs.Rules.Lane.{is_line21, is_pop}
use Rattle.cue_lists.specs.declared.cue.Cue.{Cue}
use Rattle.cue_lists.specs.declared.cue.Kind.{Kind}
use Rattle.cue_lists.specs.declared.cue.Kind.TheVariants as kind
use Rattle.cue_lists.proofs.ChannelCues.{line21_on}
use Rattle.line21_screen.specs.declared.modes.Mode.{Mode}
use Rattle.line21_screen.specs.declared.modes.Mode.TheVariants.{PopOn, PaintOn, RollUp}
use Rattle.line21_author.specs.Channels.{cues_on, field_of_kind, is_on}
use Rattle.line21_author.specs.CueCodes.{cue_codes, opening_codes}
use Rattle.line21_author.specs.CueEvents.{channel_events, control_event, cue_events, hide_events, is_replaced_at, show_events}
use Rattle.line21_author.specs.CueUnits.{unit_of}
use Rattle.line21_author.specs.EventOrder.{AreApart, AreFrom}
use Rattle.line21_author.specs.FirstChannel.{first_channel}
use Rattle.line21_author.specs.RunCodes.{run_codes}
use Rattle.line21_author.specs.declared.event.Event.{Event}
use Rattle.line21_author.specs.declared.unit.Unit.{Unit}
use Rattle.line21_author.proofs.CueCodesLemmas.{cue_codes_writable}
use Rattle.line21_author.proofs.CueEventsLemmas.{events_of_apart}
use Rattle.line21_author.proofs.CueUnitsLemmas.{unit_of_carried}
use Rattle.line21_author.proofs.SlotSequenceLemmas.{AreInSlots}
use Rattle.lanes.specs.declared.chunk.FieldChunk.{FieldChunk}
use Rattle.lanes.specs.ChannelLane.{field_cue_chunks, channel_chunks_from}
use Rattle.lanes.specs.LaneEvents.{event_at}
use Rattle.lanes.proofs.EventLemmas.{event_none}
use Rattle.line21_shown.proofs.BlindLemmas.{AreWriting, IsWriting, extended_is, mid_row, preamble, runs_writing, special_is, tab, text}
use Rattle.dual_fields.specs.declared.part.Part.{Part}
use Rattle.dual_fields.specs.Lanes.{AreCues, AreQuiet, part_chunks}
use Rattle.dual_fields.specs.ChannelParts.{channel_parts, later_part, parts_from, parts_of}
use Rattle.dual_fields.specs.Resuming.{keeps_mode, opens}
use Rattle.dual_fields.specs.Sharing.{IsFor, is_text}
use Rattle.dual_fields.specs.Together.{AreOfChannel, IsListed, IsOfChannel}

-- the units are the channel's
chunks_later : (first : Unit) (chunks : List FieldChunk) → part_chunks (map (later_part first) chunks) ≡ chunks
chunks_later first [] = refl
chunks_later first (chunk ∷ chunks) = ap (λ (l : List FieldChunk). chunk ∷ l) (chunks_later first chunks)

chunks_back : (chunks : List FieldChunk) → part_chunks (parts_of chunks) ≡ chunks
chunks_back [] = refl
chunks_back (chunk ∷ chunks) = ap (λ (l : List FieldChunk). chunk ∷ l) (chunks_later chunk.unit chunks)

pub channel_chunks_from_back : (channel : Chan) (number : ℕ) (cues : List Cue) → part_chunks (parts_from channel number cues) ≡ channel_chunks_from channel number cues
channel_chunks_from_back channel number [] = refl
channel_chunks_from_back channel number (cue ∷ cues) =
    map-append (λ (part : Part). part.chunk) (if is_on channel cue.kind then parts_of (field_cue_chunks number cue) else []) (parts_from channel (suc number) cues)
    ∙ ap (λ (l : List FieldChunk). part_chunks (if is_on channel cue.kind then parts_of (field_cue_chunks number cue) else []) ++ l) (channel_chunks_from_back channel (suc number) cues)
    ∙ ap (λ (l : List FieldChunk). l ++ channel_chunks_from channel (suc number) cues) (by_test (is_on channel cue.kind))
  where
    by_test : (b : Bool) → part_chunks (if b then parts_of (field_cue_chunks number cue) else []) ≡ (if b then field_cue_chunks number cue else [])
    by_test true = chunks_back (field_cue_chunks number cue)
    by_test false = refl

-- the codes of runs leave the mode, and are for data channel 1
writing_keeps : (code : Code) → IsWriting code → keeps_mode code ≡ true
writing_keeps code (text first second) = refl
writing_keeps code (special_is byte) = refl
writing_keeps code (extended_is set byte) = refl
writing_keeps code (preamble row col style) = refl
writing_keeps code (tab columns) = refl
writing_keeps code (mid_row colour underline) = refl

writing_own : (code : Code) → IsWriting code → IsFor data_channels.One code
writing_own code (text first second) = tt
writing_own code (special_is byte) = refl
writing_own code (extended_is set byte) = refl
writing_own code (preamble row col style) = refl
writing_own code (tab columns) = refl
writing_own code (mid_row colour underline) = refl

-- codes after a cue's first one
abbrev AllLater : List Code → Type 0
AllLater [] = ⊤
AllLater (code ∷ codes) = (keeps_mode code ≡ true) × (IsFor data_channels.One code × AllLater codes)

all_later_writing : (codes : List Code) → AreWriting codes → AllLater codes
all_later_writing [] writing = tt
all_later_writing (code ∷ codes) writing = (writing_keeps code writing.0, (writing_own code writing.0, all_later_writing codes writing.1))

-- the codes of a cue
record AreOpened (codes : List Code) : Type 0 where
  first : Code
  rest : List Code
  is : codes ≡ first ∷ rest
  mode : Mode
  opens_it : opens first ≡ Some mode
  own : IsFor data_channels.One first
  doubled : is_text first ≡ false
  later : AllLater rest

opened_codes : (k : Kind) (codes : List Code) → is_line21 k ≡ true → AllLater codes → AreOpened (opening_codes k ++ codes)
opened_codes (kind.Pop channel) codes line21 later = record {
  first = first_channel Rcl;
  rest = first_channel Enm ∷ codes;
  is = refl;
  mode = PopOn;
  opens_it = refl;
  own = refl;
  doubled = refl;
  later = (refl, (refl, later));
}
opened_codes (kind.Paint channel) codes line21 later =
    record { first = first_channel Rdc; rest = codes; is = refl; mode = PaintOn; opens_it = refl; own = refl; doubled = refl; later = later }
opened_codes (kind.Roll channel rows) codes line21 later = record {
  first = first_channel (Ru rows);
  rest = first_channel Cr ∷ codes;
  is = refl;
  mode = RollUp rows;
  opens_it = refl;
  own = refl;
  doubled = refl;
  later = (refl, (refl, later));
}
opened_codes (kind.Win window) codes line21 later = cc

-- a code of data channel 1 as a unit
unit_own : (f : FieldNumber) (code : Code) → IsWritable code → IsFor data_channels.One code → IsOfChannel data_channels.One (unit_of f code)
unit_own f code writable own = record {
  marked = (unit_of_carried f code writable).doubled;
  own = subst (IsFor data_channels.One) (sym (written-code_of f code writable)) own;
  writable = subst IsWritable (sym (written-code_of f code writable)) writable;
}

-- what begins a mode isn't text, and so is doubled
opener_doubled : (f : FieldNumber) (code : Code) (mode : Mode) → opens code ≡ Some mode → (unit_of f code).doubled ≡ true
opener_doubled f (Null) mode is = cc
opener_doubled f (Text first second) mode is = cc
opener_doubled f (Xds first second) mode is = cc
opener_doubled f (Control second control) mode is = refl

abbrev chunk_of : FieldNumber → ℕ → Cue → Code → FieldChunk
chunk_of f number cue code = record { unit = unit_of f code; load = cue.load; until = cue.show; cue = number }

abbrev chunks_with : FieldNumber → ℕ → Cue → List Code → List FieldChunk
chunks_with f number cue codes = map (λ (unit : Unit). record { unit = unit; load = cue.load; until = cue.show; cue = number }) (map (unit_of f) codes)

-- the later units of a cue, before others
later_cues : (f : FieldNumber) (number : ℕ) (cue : Cue) (first : Unit) (codes : List Code) (behind : List Part) (former : Part)
    → former.first ≡ first → former.chunk.load ≡ cue.load → All IsWritable codes → AllLater codes → ((p : Part) → AreCues (Some p) behind)
    → AreCues (Some former) (map (later_part first) (chunks_with f number cue codes) ++ behind)
later_cues f number cue first [] behind former same load writable later rest = rest former
later_cues f number cue first (code ∷ codes) behind former same load writable later rest = (
  record {
    first = sym same;
    load = sym load;
    keeps_it = ap keeps_mode (written-code_of f code (All-head IsWritable code codes writable)) ∙ later.0;
  },
  later_cues f number cue first codes behind (later_part first (chunk_of f number cue code)) refl refl (All-tail IsWritable code codes writable) later.1.1 rest,
)

later_own : (f : FieldNumber) (number : ℕ) (cue : Cue) (first : Unit) (codes : List Code) (behind : List Part)
    → IsOfChannel data_channels.One first → All IsWritable codes → AllLater codes → AreOfChannel data_channels.One behind
    → AreOfChannel data_channels.One (map (later_part first) (chunks_with f number cue codes) ++ behind)
later_own f number cue first [] behind own writable later rest = rest
later_own f number cue first (code ∷ codes) behind own writable later rest = (
  unit_own f code (All-head IsWritable code codes writable) later.1.0,
  own,
  later_own f number cue first codes behind own (All-tail IsWritable code codes writable) later.1.1 rest,
)

-- what holds of parts after others
later_quiet : (events : ℕ → Option Unit) (f : FieldNumber) (number : ℕ) (cue : Cue) (first : Unit) (codes : List Code) (behind : List Part)
    → ((n : ℕ) (unit : Unit) → cue.load < n → n < cue.show → events n ≡ Some unit → keeps_mode (code_of unit.pair) ≡ true)
    → AreQuiet events behind → AreQuiet events (map (later_part first) (chunks_with f number cue codes) ++ behind)
later_quiet events f number cue first [] behind quiet rest = rest
later_quiet events f number cue first (code ∷ codes) behind quiet rest = (quiet, later_quiet events f number cue first codes behind quiet rest)

-- the units of one cue, before others
record AreParts (events : ℕ → Option Unit) (former : Option Part) (parts : List Part) : Type 0 where
  cues : AreCues former parts
  own : AreOfChannel data_channels.One parts
  quiet : AreQuiet events parts

cue_parts_are : (events : ℕ → Option Unit) (f : FieldNumber) (number : ℕ) (cue : Cue) (codes : List Code) (behind : List Part) (former : Option Part)
    → AreOpened codes → All IsWritable codes
    → ((n : ℕ) (unit : Unit) → cue.load < n → n < cue.show → events n ≡ Some unit → keeps_mode (code_of unit.pair) ≡ true)
    → ((p : Option Part) → AreParts events p behind) → AreParts events former (parts_of (chunks_with f number cue codes) ++ behind)
cue_parts_are events f number cue codes behind former opened writable quiet rest =
    subst (λ (l : List Code). AreParts events former (parts_of (chunks_with f number cue l) ++ behind)) (sym opened.is)
    (record {
      cues = (
        record {
          first = refl;
          mode = opened.mode;
          opens_it = ap opens (written-code_of f opened.first first_writable) ∙ opened.opens_it;
          doubled = opener_doubled f opened.first opened.mode opened.opens_it;
        },
        later_cues f number cue (unit_of f opened.first) opened.rest behind
            (record { chunk = chunk_of f number cue opened.first; first = unit_of f opened.first; later = false }) refl refl rest_writable opened.later (λ p. (rest (Some p)).cues),
      );
      own = (
        unit_own f opened.first first_writable opened.own,
        unit_own f opened.first first_writable opened.own,
        later_own f number cue (unit_of f opened.first) opened.rest behind (unit_own f opened.first first_writable opened.own) rest_writable opened.later (rest None).own,
      );
      quiet = (quiet, later_quiet events f number cue (unit_of f opened.first) opened.rest behind quiet (rest None).quiet);
    })
  where
    writable_is : All IsWritable (opened.first ∷ opened.rest)
    writable_is = subst (All IsWritable) opened.is writable

    first_writable : IsWritable opened.first
    first_writable = All-head IsWritable opened.first opened.rest (subst (All IsWritable) opened.is writable)

    rest_writable : All IsWritable opened.rest
    rest_writable = All-tail IsWritable opened.first opened.rest (subst (All IsWritable) opened.is writable)

-- while a cue is under way its channel's events leave the mode
abbrev IsQuiet : (ℕ → Option Unit) → Cue → Type 0
IsQuiet events cue = (n : ℕ) (unit : Unit) → cue.load < n → n < cue.show → events n ≡ Some unit → keeps_mode (code_of unit.pair) ≡ true

parts_are : (events : ℕ → Option Unit) (channel : Chan) (number : ℕ) (cues : List Cue) → All IsCueFormed cues → AllByRecursion (IsQuiet events) (cues_on channel cues)
    → (former : Option Part) → AreParts events former (parts_from channel number cues)
parts_are events channel number [] formed quiet former = record { cues = tt; own = tt; quiet = tt }
parts_are events channel number (cue ∷ cues) formed quiet former =
    by_test (is_on channel cue.kind) refl quiet (parts_are events channel (suc number) cues (All-tail IsCueFormed cue cues formed))
  where
    by_test : (b : Bool) → is_on channel cue.kind ≡ b → AllByRecursion (IsQuiet events) (if b then cue ∷ cues_on channel cues else cues_on channel cues)
        → (AllByRecursion (IsQuiet events) (cues_on channel cues) → (p : Option Part) → AreParts events p (parts_from channel (suc number) cues))
        → AreParts events former ((if b then parts_of (field_cue_chunks number cue) else []) ++ parts_from channel (suc number) cues)
    by_test true on all rest =
        cue_parts_are events (field_of_kind cue.kind) number cue (cue_codes cue) (parts_from channel (suc number) cues) former
        (opened_codes cue.kind (flat_map run_codes cue.runs) (line21_on channel cue.kind on) (all_later_writing (flat_map run_codes cue.runs) (runs_writing cue.runs)))
        (cue_codes_writable cue (All-head IsCueFormed cue cues formed)) all.0 (rest all.1)
    by_test false on all rest = rest all former

-- an event of cues shows one of them or hides one
abbrev showing_unit : FieldNumber → Unit
showing_unit f = record { pair = pair_of_code f (first_channel Eoc); doubled = true }

abbrev hiding_unit : FieldNumber → Unit
hiding_unit f = record { pair = pair_of_code f (first_channel Edm); doubled = true }

event_append : (es fs : List Event) (n : ℕ) → event_at (es ++ fs) n ≡ option_or (event_at es n) (event_at fs n)
event_append [] fs n = refl
event_append (e ∷ es) fs n = by_test (n == e.slot) (event_append es fs n)
  where
    by_test : (b : Bool) → event_at (es ++ fs) n ≡ option_or (event_at es n) (event_at fs n)
        → (if b then Some (record { pair = e.pair; doubled = true }) else event_at (es ++ fs) n)
        ≡ option_or (if b then Some (record { pair = e.pair; doubled = true }) else event_at es n) (event_at fs n)
    by_test true rest = refl
    by_test false rest = rest

or_else : (u v : Option Unit) (unit : Unit) → option_or u v ≡ Some unit → (u ≡ Some unit) ⊎ (v ≡ Some unit)
or_else None v unit is = inr is
or_else (Some w) v unit is = inl is

one_event : (f : FieldNumber) (slot n : ℕ) (event : Event) (unit : Unit) (b : Bool) → (n == slot) ≡ b → event.slot ≡ slot
    → event_at (event ∷ []) n ≡ Some unit → (n ≡ slot) × (unit ≡ record { pair = event.pair; doubled = true })
one_event f slot n event unit true test at is =
    let here : n ≡ slot = grind (arith, nat_tests) in
    let e : event_at (event ∷ []) n ≡ Some (record { pair = event.pair; doubled = true }) = rw (at, test) refl in
    let it : Some (record { pair = event.pair; doubled = true }) ≡ Some unit = sym e ∙ is in
    let same : unit ≡ record { pair = event.pair; doubled = true } = cc in
    (here, same)
one_event f slot n event unit false test at is = let wrong : None ≡ Some unit = rw (at, test) at is in absurd (cc)

shown_event : (f : FieldNumber) (cue : Cue) (b : Bool) (n : ℕ) (unit : Unit) → event_at (if b then control_event f cue.show Eoc ∷ [] else []) n ≡ Some unit
    → (n ≡ cue.show) × (unit ≡ showing_unit f)
shown_event f cue true n unit is = one_event f cue.show n (control_event f cue.show Eoc) unit (n == cue.show) refl refl is
shown_event f cue false n unit is = cc

hidden_event : (f : FieldNumber) (hide : ℕ) (b : Bool) (n : ℕ) (unit : Unit) → event_at (if b then [] else control_event f hide Edm ∷ []) n ≡ Some unit → unit ≡ hiding_unit f
hidden_event f hide true n unit is = cc
hidden_event f hide false n unit is = (one_event f hide n (control_event f hide Edm) unit (n == hide) refl refl is).1

hide_event : (f : FieldNumber) (hide : Option ℕ) (later : List Cue) (n : ℕ) (unit : Unit) → event_at (hide_events f hide later) n ≡ Some unit → unit ≡ hiding_unit f
hide_event f None later n unit is = cc
hide_event f (Some hide) later n unit is = hidden_event f hide (is_replaced_at hide later) n unit is

-- it shows one at its SHOW, or hides one
abbrev ShowsOrHides : FieldNumber → List Cue → ℕ → Unit → Type 0
ShowsOrHides f cues n unit = ((unit ≡ showing_unit f) × (AllByRecursion (λ (cue : Cue). cue.show ≢ n) cues → ⊥)) ⊎ (unit ≡ hiding_unit f)

which_event : (f : FieldNumber) (cues : List Cue) (n : ℕ) (unit : Unit) → event_at (cue_events f cues) n ≡ Some unit → ShowsOrHides f cues n unit
which_event f [] n unit is = cc
which_event f (cue ∷ later) n unit is =
    ⊎_elim
    (λ (own : event_at (show_events f cue ++ hide_events f cue.hide later) n ≡ Some unit).
    ⊎_elim
    (λ (shows : event_at (show_events f cue) n ≡ Some unit).
    let s = shown_event f cue (is_pop cue.kind) n unit shows in
    let never : AllByRecursion (λ (c : Cue). c.show ≢ n) (cue ∷ later) → ⊥ = λ none. none.0 (sym s.0) in
    inl (s.1, never))
    (λ (hides : event_at (hide_events f cue.hide later) n ≡ Some unit). inr (hide_event f cue.hide later n unit hides))
    (or_else (event_at (show_events f cue) n) (event_at (hide_events f cue.hide later) n) unit
    (sym (event_append (show_events f cue) (hide_events f cue.hide later) n) ∙ own)))
    (λ (more : event_at (cue_events f later) n ≡ Some unit).
    ⊎_elim
    (λ (shows : (unit ≡ showing_unit f) × (AllByRecursion (λ (c : Cue). c.show ≢ n) later → ⊥)).
    let never : AllByRecursion (λ (c : Cue). c.show ≢ n) (cue ∷ later) → ⊥ = λ none. shows.1 none.1 in
    inl (shows.0, never))
    (λ (hides : unit ≡ hiding_unit f). inr hides)
    (which_event f later n unit more))
    (or_else (event_at (show_events f cue ++ hide_events f cue.hide later) n) (event_at (cue_events f later) n) unit
    (sym (event_append (show_events f cue ++ hide_events f cue.hide later) (cue_events f later) n) ∙ is))

hiding_keeps : (f : FieldNumber) (unit : Unit) → unit ≡ hiding_unit f → keeps_mode (code_of unit.pair) ≡ true
hiding_keeps f unit is = ap (λ (u : Unit). keeps_mode (code_of u.pair)) is ∙ ap keeps_mode (written-code_of f (first_channel Edm) tt)

-- between a cue's LOAD and its SHOW no cue of the channel is shown
all_apart : (n : ℕ) (P : Cue → Type 0) → ((cue : Cue) → P cue → cue.show ≢ n) → (cues : List Cue) → AllByRecursion P cues → AllByRecursion (λ (cue : Cue). cue.show ≢ n) cues
all_apart n P apart [] all = tt
all_apart n P apart (cue ∷ cues) all = (apart cue all.0, all_apart n P apart cues all.1)

-- the cues after one are loaded at its SHOW or later, and shown later
abbrev ComeBehind : ℕ → List Cue → Type 0
ComeBehind show cues = AllByRecursion (λ (cue : Cue). (show ≤ cue.load) × (show < cue.show)) cues

come_behind : (slots : ℕ) (show : ℕ) (former : Cue) (cues : List Cue) → show ≤ former.show → AreInSlots slots (former ∷ cues) → ComeBehind show cues
come_behind slots show former [] low sequence = tt
come_behind slots show former (cue ∷ cues) low sequence =
    let loaded : former.show ≤ cue.load = sequence.1.link.loaded in
    let later : former.show < cue.show = sequence.1.later in
    ((omega arith, omega arith), come_behind slots show cue cues (omega arith) sequence.2)

rest_of : (slots : ℕ) (cue : Cue) (cues : List Cue) → AreInSlots slots (cue ∷ cues) → AreInSlots slots cues
rest_of slots cue [] sequence = tt
rest_of slots cue (next ∷ cues) sequence = sequence.2

-- of each cue, none is shown between its LOAD and its SHOW
abbrev NoneBetween : List Cue → Cue → Type 0
NoneBetween all cue = (n : ℕ) → cue.load < n → n < cue.show → AllByRecursion (λ (c : Cue). c.show ≢ n) all

none_with : (first : Cue) (all cues : List Cue) → ComeBehind first.show cues → AllByRecursion (NoneBetween all) cues → AllByRecursion (NoneBetween (first ∷ all)) cues
none_with first all [] behind none = tt
none_with first all (cue ∷ cues) behind none = (
  λ n high low. (λ (same : first.show ≡ n). let b = behind.0.0 in absurd (omega arith), none.0 n high low),
  none_with first all cues behind.1 none.1,
)

none_between : (slots : ℕ) (cues : List Cue) → AreInSlots slots cues → AllByRecursion (NoneBetween cues) cues
none_between slots [] sequence = tt
none_between slots (cue ∷ cues) sequence =
    let behind = come_behind slots cue.show cue cues (omega arith) sequence in (
      λ n high low. (
        λ (same : cue.show ≡ n). absurd (omega arith),
        all_apart n (λ (c : Cue). (cue.show ≤ c.load) × (cue.show < c.show)) (λ c b (same : c.show ≡ n). let l = b.1 in absurd (omega arith)) cues behind,
      ),
      none_with cue cues cues behind (none_between slots cues (rest_of slots cue cues sequence)),
    )

quiet_events : (f : FieldNumber) (all cues : List Cue) → AllByRecursion (NoneBetween all) cues → AllByRecursion (IsQuiet (event_at (cue_events f all))) cues
quiet_events f all [] none = tt
quiet_events f all (cue ∷ cues) none = (
  λ n unit high low is.
      ⊎_elim
      (λ (shows : (unit ≡ showing_unit f) × (AllByRecursion (λ (c : Cue). c.show ≢ n) all → ⊥)). absurd (shows.1 (none.0 n high low)))
      (λ (hides : unit ≡ hiding_unit f). hiding_keeps f unit hides)
      (which_event f all n unit is),
  quiet_events f all cues none.1,
)

-- events that lie apart
begins_from : (es : List Event) (n m : ℕ) (u : Unit) → AreFrom m es → event_at es n ≡ Some u → m ≤ n
begins_from es n m u from at = ⊎_elim
    (λ (h : n < m). let none : event_at es n ≡ None = event_none m n es from h in let f : Some u ≡ None = sym at ∙ none in absurd (cc))
    (λ (h : m ≤ n). h) (cases_lt n m)

event_first : (e : Event) (es : List Event) (n : ℕ) (b : Bool) → (n == e.slot) ≡ b → event_at (e ∷ es) n ≡ (if b then Some (record { pair = e.pair; doubled = true }) else event_at es n)
event_first e es n b test = rw test refl

event_apart : (es : List Event) (n : ℕ) (u : Unit) → AreApart es → event_at es n ≡ Some u → event_at es (suc n) ≡ None
event_apart [] n u apart is = refl
event_apart (e ∷ es) n u apart is = go (event_apart es n u apart.1) (n == e.slot) refl
  where
    go : (event_at es n ≡ Some u → event_at es (suc n) ≡ None) → (b : Bool) → (n == e.slot) ≡ b → event_at (e ∷ es) (suc n) ≡ None
    go onward true b =
        let here : n ≡ e.slot = grind (arith, nat_tests) in
        let next : (suc n == e.slot) ≡ false = grind (arith, nat_tests) in
        event_first e es (suc n) false next ∙ event_none (e.slot + 2) (suc n) es apart.0 (omega arith)
    go onward false b =
        let rest : event_at es n ≡ Some u = sym (event_first e es n false b) ∙ is in
        let later : e.slot + 2 ≤ n = begins_from es n (e.slot + 2) u apart.0 rest in
        let next : (suc n == e.slot) ≡ false = grind (arith, nat_tests) in
        event_first e es (suc n) false next ∙ onward rest

event_own : (f : FieldNumber) (unit : Unit) (cues : List Cue) (n : ℕ) → ShowsOrHides f cues n unit → IsOfChannel data_channels.One unit × (is_text (code_of unit.pair) ≡ false)
event_own f unit cues n which =
    ⊎_elim
    (λ (shows : (unit ≡ showing_unit f) × (AllByRecursion (λ (c : Cue). c.show ≢ n) cues → ⊥)).
    subst (λ (u : Unit). IsOfChannel data_channels.One u × (is_text (code_of u.pair) ≡ false)) (sym shows.0)
    (unit_own f (first_channel Eoc) tt refl, ap is_text (written-code_of f (first_channel Eoc) tt)))
    (λ (hides : unit ≡ hiding_unit f).
    subst (λ (u : Unit). IsOfChannel data_channels.One u × (is_text (code_of u.pair) ≡ false)) (sym hides)
    (unit_own f (first_channel Edm) tt refl, ap is_text (written-code_of f (first_channel Edm) tt)))
    which

-- the lane of a channel's cues that keep the rules
pub channel_listed : (channel : Chan) (slots : ℕ) (cues : List Cue) → All IsCueFormed cues → AreInSlots slots (cues_on channel cues)
    → IsListed data_channels.One (event_at (channel_events channel cues)) (channel_parts channel cues)
channel_listed channel slots cues formed sequence =
    let f : FieldNumber = field_of_channel channel in
    let quiet = quiet_events (field_of_channel channel) (cues_on channel cues) (cues_on channel cues) (none_between slots (cues_on channel cues) sequence) in
    let parts = parts_are (event_at (channel_events channel cues)) channel 1 cues formed quiet None in
    record {
      apart = λ n unit is. event_apart (channel_events channel cues) n unit (events_of_apart (field_of_channel channel) slots (cues_on channel cues) sequence) is;
      controls = λ n unit is. (event_own (field_of_channel channel) unit (cues_on channel cues) n (which_event (field_of_channel channel) (cues_on channel cues) n unit is)).1;
      events_own = λ n unit is. (event_own (field_of_channel channel) unit (cues_on channel cues) n (which_event (field_of_channel channel) (cues_on channel cues) n unit is)).0;
      quiet = parts.quiet;
      cues = parts.cues;
      parts_own = parts.own;
    }
