-- The first unit of a cue and the slot in which it begins; and a timeline that is another one before a slot.
use Rattle.std.proofs.Common.{◌≡◌, ℕ, zero, suc, ◌<◌, ◌≤◌, nat_lt, Bool, true, false, List, [], ◌∷◌, ◌++◌, map, Option, Some, None, refl, sym, ap, ◌∙◌, subst, arith, ⊎_elim}
use Rattle.std.specs.Prelude.{◌==◌, if◌then◌else◌}
use Rattle.std.specs.List.{flat_map}
use Rattle.std.specs.Option.{option_or}
use Rattle.std.proofs.lemmas.Bool.{cases_lt}
use Rattle.std.proofs.lemmas.Bool.Decides.{nat_tests}
use Rattle.line21_codes.specs.declared.channels.FieldNumber.{FieldNumber}
use Rattle.line21_codes.specs.declared.codes.Code.{Code}
use Rattle.line21_codes.specs.declared.codes.Code.TheVariants.{Null}
use Rattle.line21_codes.specs.declared.codes.Control.TheVariants.{Cr, Edm, Enm, Rcl, Rdc, Ru}
use Rattle.line21_codes.specs.Reading.{code_of}
use Rattle.cue_lists.specs.Cues.{IsCueFormed}
use Rattle.cue_lists.specs.Rules.Lane.{is_line21}
use Rattle.cue_lists.specs.declared.cue.Cue.{Cue}
use Rattle.cue_lists.specs.declared.cue.Kind.{Kind}
use Rattle.cue_lists.specs.declared.cue.Kind.TheVariants as kind
use Rattle.line21_author.specs.Channels.{field_of_kind}
use Rattle.line21_author.specs.CueCodes.{opening_codes}
use Rattle.line21_author.specs.CueEvents.{control_event, cue_events, hide_events, is_replaced_at}
use Rattle.line21_author.specs.CueUnits.{unit_of}
use Rattle.line21_author.specs.FirstChannel.{first_channel}
use Rattle.line21_author.specs.RunCodes.{run_codes}
use Rattle.line21_author.specs.declared.event.Event.{Event}
use Rattle.line21_author.specs.declared.unit.Unit.{Unit}
use Rattle.line21_screen.specs.Channels.{ChannelState}
use Rattle.lanes.specs.declared.chunk.FieldChunk.{FieldChunk}
use Rattle.lanes.specs.ChannelLane.{field_cue_chunks}
use Rattle.lanes.specs.LaneEvents.{IsFree, event_at}
use Rattle.lanes.specs.LaneTimeline.{stands}
use Rattle.lanes.specs.Timeline.{Timeline}
use Rattle.lanes.proofs.DoublingLemmas.{free_none}
use Rattle.line21_shown.specs.Reading.{acts, does_unit}
use Rattle.line21_shown.proofs.HeadLemmas.{Continues, cue_codes_are, events_on}
use Rattle.line21_shown.proofs.LoadingLemmas.{chunk_codes}
use Rattle.line21_shown.proofs.SuffixLemmas.{AreChunks, ArePlacedFrom, placed_behind, stands_low}

-- a timeline that is another one before a slot
abbrev pub joined : ℕ → Timeline → Timeline → Timeline
joined e before behind n = if nat_lt n e then before n else behind n

pub joined_low : (e : ℕ) (h t : Timeline) (n : ℕ) → n < e → joined e h t n ≡ h n
joined_low e h t n below = let test : nat_lt n e ≡ true = grind (arith, nat_tests) in rw test refl

pub joined_high : (e : ℕ) (h t : Timeline) (n : ℕ) → e ≤ n → joined e h t n ≡ t n
joined_high e h t n above = let test : nat_lt n e ≡ false = grind (arith, nat_tests) in rw test refl

-- it acts as the first where the second does the same
pub acts_joined : (e : ℕ) (h t : Timeline) → ((m : ℕ) → e ≤ m → (s : ChannelState) → does_unit (t m) s ≡ does_unit (h m) s)
    → (n : ℕ) → acts (joined e h t) n ≡ acts h n
acts_joined e h t same zero = refl
acts_joined e h t same (suc n) =
    ⊎_elim
    (λ (below : n < e). ap (λ u. does_unit u (acts (joined e h t) n)) (joined_low e h t n below) ∙ ap (does_unit (h n)) (acts_joined e h t same n))
    (λ (above : e ≤ n). ap (λ u. does_unit u (acts (joined e h t) n)) (joined_high e h t n above) ∙ ap (does_unit (t n)) (acts_joined e h t same n) ∙ same n above (acts h n))
    (cases_lt n e)

-- the code that a cue begins with
abbrev pub opening_of : Kind → Code
opening_of (kind.Pop channel) = first_channel Rcl
opening_of (kind.Paint channel) = first_channel Rdc
opening_of (kind.Roll channel rows) = first_channel (Ru rows)
opening_of (kind.Win window) = Null

first_is : (k : Kind) (codes : List Code) → is_line21 k ≡ true → (rest : List Code) × (opening_codes k ++ codes ≡ opening_of k ∷ rest)
first_is (kind.Pop channel) codes line21 = (first_channel Enm ∷ codes, refl)
first_is (kind.Paint channel) codes line21 = (codes, refl)
first_is (kind.Roll channel rows) codes line21 = (first_channel Cr ∷ codes, refl)
first_is (kind.Win window) codes line21 = cc

opening_doubled : (f : FieldNumber) (k : Kind) → is_line21 k ≡ true → (unit_of f (opening_of k)).doubled ≡ true
opening_doubled f (kind.Pop channel) line21 = refl
opening_doubled f (kind.Paint channel) line21 = refl
opening_doubled f (kind.Roll channel rows) line21 = refl
opening_doubled f (kind.Win window) line21 = cc

-- the first unit of a cue
pub record IsBegun (in_field : FieldNumber) (t : Timeline) (a : ℕ) (hide : Option ℕ) (cue : Cue) (later : List Cue) (on : Continues in_field t a hide (cue ∷ later)) : Type 0 where
  pub chunk : FieldChunk
  pub rest : List FieldChunk
  pub slot : ℕ
  pub slots : List ℕ
  pub chunks_are : on.chunks ≡ chunk ∷ rest
  pub slots_are : on.frames ≡ slot ∷ slots
  pub placed : ArePlacedFrom (events_on in_field hide (cue ∷ later)) a (chunk ∷ rest) (slot ∷ slots)
  pub loads : chunk.load ≡ cue.load
  pub ends : chunk.until ≡ cue.show
  pub code : code_of chunk.unit.pair ≡ opening_of cue.kind
  pub twice : chunk.unit.doubled ≡ true

head_code : (c d : Code) (cs ds : List Code) → c ∷ cs ≡ d ∷ ds → c ≡ d
head_code c d cs ds is = cc

pub begun : (in_field : FieldNumber) (t : Timeline) (a : ℕ) (hide : Option ℕ) (cue : Cue) (later : List Cue) → is_line21 cue.kind ≡ true → IsCueFormed cue
    → (on : Continues in_field t a hide (cue ∷ later)) → IsBegun in_field t a hide cue later on
begun in_field t a hide cue later line21 formed on =
    let w = first_is cue.kind (flat_map run_codes cue.runs) line21 in
    let chunk_of : Unit → FieldChunk = λ (unit : Unit). record { unit = unit; load = cue.load; until = cue.show; cue = on.are.0 } in
    let f : FieldNumber = field_of_kind cue.kind in
    let own : field_cue_chunks on.are.0 cue ≡ chunk_of (unit_of f (opening_of cue.kind)) ∷ map chunk_of (map (unit_of f) w.0) =
    ap (λ (codes : List Code). map chunk_of (map (unit_of f) codes)) w.1 in
    let code : code_of (unit_of f (opening_of cue.kind)).pair ≡ opening_of cue.kind =
    head_code _ _ _ _ (sym (ap chunk_codes own) ∙ cue_codes_are on.are.0 cue formed ∙ w.1) in
    at on.frames refl (chunk_of (unit_of f (opening_of cue.kind))) (map chunk_of (map (unit_of f) w.0) ++ on.are.1)
    (on.are.2 ∙ ap (λ (ps : List FieldChunk). ps ++ on.are.1) own) refl refl code (opening_doubled f cue.kind line21)
  where
    at : (frames : List ℕ) → on.frames ≡ frames → (chunk : FieldChunk) (rest : List FieldChunk) → on.chunks ≡ chunk ∷ rest → chunk.load ≡ cue.load → chunk.until ≡ cue.show
        → code_of chunk.unit.pair ≡ opening_of cue.kind → chunk.unit.doubled ≡ true → IsBegun in_field t a hide cue later on
    at [] none chunk rest are loads ends code twice =
        absurd (subst (λ (ps : List FieldChunk). ArePlacedFrom (events_on in_field hide (cue ∷ later)) a ps []) are
        (subst (λ (fs : List ℕ). ArePlacedFrom (events_on in_field hide (cue ∷ later)) a on.chunks fs) none on.placed))
    at (slot ∷ slots) some chunk rest are loads ends code twice = record {
      chunk = chunk;
      rest = rest;
      slot = slot;
      slots = slots;
      chunks_are = are;
      slots_are = some;
      placed = subst (λ (ps : List FieldChunk). ArePlacedFrom (events_on in_field hide (cue ∷ later)) a ps (slot ∷ slots)) are
          (subst (λ (fs : List ℕ). ArePlacedFrom (events_on in_field hide (cue ∷ later)) a on.chunks fs) some on.placed);
      loads = loads;
      ends = ends;
      code = code;
      twice = twice;
    }

module _ (in_field : FieldNumber) (t : Timeline) (a : ℕ) (hide : Option ℕ) (cue : Cue) (later : List Cue) (on : Continues in_field t a hide (cue ∷ later))
    (is : IsBegun in_field t a hide cue later on) where
  abbrev events : List Event
  events = events_on in_field hide (cue ∷ later)

  pub slot_from_a : a ≤ is.slot
  slot_from_a = is.placed.0

  pub slot_loaded : cue.load ≤ is.slot
  slot_loaded = let low : is.chunk.load ≤ is.slot = is.placed.1 in let loads = is.loads in omega arith

  pub slot_ended : is.slot < cue.show
  slot_ended = let high : is.slot < is.chunk.until = is.placed.2 in let ends = is.ends in omega arith

  pub slot_free : IsFree events is.slot
  slot_free = is.placed.3

  -- there it stands
  same_stands : (n : ℕ) → stands on.chunks on.frames n ≡ stands (is.chunk ∷ is.rest) (is.slot ∷ is.slots) n
  same_stands n = ap (λ (ps : List FieldChunk). stands ps on.frames n) is.chunks_are ∙ ap (λ (fs : List ℕ). stands (is.chunk ∷ is.rest) fs n) is.slots_are

  pub begins_there : t is.slot ≡ Some is.chunk.unit
  begins_there =
      let test : (is.slot == is.slot) ≡ true = grind (arith, nat_tests) in
      let there : stands (is.chunk ∷ is.rest) (is.slot ∷ is.slots) is.slot ≡ Some is.chunk.unit = rw test refl in
      on.same is.slot slot_from_a ∙ ap (λ u. option_or u (stands on.chunks on.frames is.slot)) (free_none events is.slot slot_free)
      ∙ same_stands is.slot ∙ there

  -- and before it nothing but events
  pub before_it : (n : ℕ) → a ≤ n → n < is.slot → t n ≡ event_at events n
  before_it n from below =
      let none : stands (is.chunk ∷ is.rest) (is.slot ∷ is.slots) n ≡ None =
      stands_low events is.slot n (is.chunk ∷ is.rest) (is.slot ∷ is.slots) (omega arith, is.placed.1, is.placed.2, is.placed.3, is.placed.4) below in
      on.same n from ∙ ap (option_or (event_at events n)) (same_stands n ∙ none) ∙ alone (event_at events n)
    where
      alone : (u : Option Unit) → option_or u None ≡ u
      alone None = refl
      alone (Some unit) = refl

  -- another timeline before it continues with the cue too
  pub goes_on : (h : Timeline) → Continues in_field (joined is.slot h t) is.slot hide (cue ∷ later)
  goes_on h = record {
    chunks = is.chunk ∷ is.rest;
    frames = is.slot ∷ is.slots;
    are = subst (AreChunks (cue ∷ later)) is.chunks_are on.are;
    placed = (omega arith, is.placed.1, is.placed.2, is.placed.3, is.placed.4);
    same = λ n above. joined_high is.slot h t n above ∙ on.same n (let low = slot_from_a in omega arith) ∙ ap (option_or (event_at events n)) (same_stands n);
  }

  -- where the former cue is hidden before, that is no more to come
  no_event : (h n : ℕ) (replaced : Bool) (more : List Event) → h < n → event_at ((if replaced then [] else control_event in_field h Edm ∷ []) ++ more) n ≡ event_at more n
  no_event h n true more below = refl
  no_event h n false more below = let test : (n == h) ≡ false = grind (arith, nat_tests) in rw test refl

  pub goes_on_shown : (h : Timeline) (hidden : ℕ) → hide ≡ Some hidden → hidden < is.slot → Continues in_field (joined is.slot h t) is.slot None (cue ∷ later)
  goes_on_shown h hidden some past =
      let all = goes_on h in
      record {
        chunks = all.chunks;
        frames = all.frames;
        are = all.are;
        placed = placed_behind (hide_events in_field hide (cue ∷ later)) (cue_events in_field (cue ∷ later)) is.slot all.chunks all.frames all.placed;
        same = λ n above.
            all.same n above
            ∙ ap (λ u. option_or u (stands all.chunks all.frames n))
            (ap (λ (o : Option ℕ). event_at (hide_events in_field o (cue ∷ later) ++ cue_events in_field (cue ∷ later)) n) some
            ∙ no_event hidden n (is_replaced_at hidden (cue ∷ later)) (cue_events in_field (cue ∷ later)) (omega arith));
      }
