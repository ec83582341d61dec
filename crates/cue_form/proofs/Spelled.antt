-- A list that was read: its records spell it.
use Rattle.std.proofs.Common.{◌≡◌, ℕ, ◌+◌, is_none, List, [], ◌∷◌, ◌++◌, map, true, false, Option, Some, None, Ok, refl, sym, ap, ◌∙◌, append_assoc}
use Rattle.std.specs.List.{flat_map}
use Rattle.std.specs.Prelude.{is_some, MatchOption, option_to_list}
use Rattle.std.proofs.lemmas.Grind.{flat_map-append}
use Rattle.std.proofs.lemmas.List.{append-nil, map-append}
use Rattle.dtvcc_codes.specs.declared.pens.PenColors.{PenColors}
use Rattle.dtvcc_codes.specs.declared.windows.WinAttr.{WinAttr}
use Rattle.cue_form.specs.Begun.{Begun, IsBegun, IsCueBegun, IsPlainKind, awaits_run, cue_with_attributes, cue_with_colours, cue_with_run, cues_of, kind_with_attributes, no_runs, nothing, with_cue}
use Rattle.cue_types.specs.Coloured.{coloured}
use Rattle.cue_types.specs.Listing.{Listing}
use Rattle.cue_form.specs.Form.{awaits_attributes, awaits_colours, is_bare_window, is_second, is_window, last_is_plain, may_stand, record_kind_of}
use Rattle.cue_form.specs.Judgements.{room_at}
use Rattle.cue_form.specs.Reading.{adds, attributes_of, colours_of, head_of, next, opens, read_from, run_of, share_record_of, spelled_list}
use Rattle.cue_form.specs.Records.{Record, field}
use Rattle.cue_form.specs.Spelling.{SpellsList, attribute_record, attribute_records, begun_records, colour_record, cue_record, cue_records, head_record, run_record, run_records, share_record}
use Rattle.cue_types.specs.declared.cue.Cue.{Cue}
use Rattle.cue_types.specs.declared.cue.Kind.{Kind}
use Rattle.cue_types.specs.declared.cue.Kind.TheVariants as kind
use Rattle.cue_types.specs.declared.cue.Run.{Run}
use Rattle.cue_types.specs.declared.head.Head.{Head}
use Rattle.cue_types.specs.declared.list.Share.{Share}
use Rattle.cue_form.specs.declared.record_kind.RecordKind.{RecordKind}
use Rattle.cue_form.specs.declared.record_kind.RecordKind.TheVariants as record_kind
use Rattle.cue_form.proofs.Passing.{both_of, denied, with_part, with_value}
use Rattle.cue_form.proofs.RecordFacts.{attributes_passed, colours_passed, head_passed, opens_cue, run_passed, share_passed}
use Rattle.cue_form.proofs.Steps.{nothing_before, IsBegun-next, IsBegun-nothing, IsFormed-list_ended, headed, last_passes, next_passed, opens_passed}
use Rattle.cue_form.proofs.WordFacts.{kind_passed}

-- what one element more adds at the end
flat_more : {A B : Type 0} (f : A → List B) (xs : List A) (x : A) (h s : List B) → h ++ (s ++ flat_map f (xs ++ x ∷ [])) ≡ (h ++ (s ++ flat_map f xs)) ++ f x
flat_more f xs x h s = rw (flat_map-append f xs (x ∷ []), append-nil (f x)) (simp append_assoc)

-- a cue more
begun_records-with_cue : (b : Begun) (cue : Cue) → begun_records (with_cue b cue) ≡ begun_records b ++ cue_records cue
begun_records-with_cue b cue = flat_more cue_records (cues_of b) cue (map head_record (option_to_list b.head)) (map share_record b.shares)

-- the last cue with a record more
begun_records-with_last : (b : Begun) (cue more : Cue) (r : Record) → b.last ≡ Some cue → cue_records more ≡ cue_records cue ++ r ∷ []
    → begun_records (record b { last = Some more }) ≡ begun_records b ++ r ∷ []
begun_records-with_last b cue more r last grown =
    let h = map head_record (option_to_list b.head) in
    let s = map share_record b.shares in
    let old : begun_records b ≡ (h ++ (s ++ flat_map cue_records b.earlier)) ++ cue_records cue = rw last (flat_more cue_records b.earlier cue h s) in
    let new = flat_more cue_records b.earlier more h s in
    new ∙ (ap (λ (rs : List Record). (h ++ (s ++ flat_map cue_records b.earlier)) ++ rs) grown
    ∙ (sym (append_assoc (h ++ (s ++ flat_map cue_records b.earlier)) (cue_records cue) (r ∷ [])) ∙ ap (λ (rs : List Record). rs ++ r ∷ []) (sym old)))

-- a cue's record doesn't tell its runs
cue_record-with_run : (k : Kind) (cue : Cue) (run : Run) → cue_record k (cue_with_run cue run) ≡ cue_record k cue
cue_record-with_run (kind.Pop channel) cue run = refl
cue_record-with_run (kind.Paint channel) cue run = refl
cue_record-with_run (kind.Roll channel rows) cue run = refl
cue_record-with_run (kind.Win window) cue run = refl

cue_record-coloured : (k : Kind) (cue : Cue) (colours : PenColors) → cue_record k (cue_with_colours colours cue) ≡ cue_record k cue
cue_record-coloured (kind.Pop channel) cue colours = refl
cue_record-coloured (kind.Paint channel) cue colours = refl
cue_record-coloured (kind.Roll channel rows) cue colours = refl
cue_record-coloured (kind.Win window) cue colours = refl

-- a record after the others of a cue
behind_runs : (first : Record) (own runs : List Record) (r : Record) → first ∷ (own ++ (runs ++ r ∷ [])) ≡ (first ∷ (own ++ runs)) ++ r ∷ []
behind_runs first own runs r = ap (λ (rs : List Record). first ∷ rs) (sym (append_assoc own runs (r ∷ [])))

cue_records-with_run : (cue : Cue) (run : Run) → run.colors ≡ None → cue_records (cue_with_run cue run) ≡ cue_records cue ++ run_record run ∷ []
cue_records-with_run cue run plain =
    let grown : flat_map run_records (cue.runs ++ run ∷ []) ≡ flat_map run_records cue.runs ++ run_record run ∷ [] =
    flat_map-append run_records cue.runs (run ∷ []) ∙ rw plain refl in
    rw (cue_record-with_run cue.kind cue run, grown) (behind_runs (cue_record cue.kind cue) (attribute_records cue.kind) (flat_map run_records cue.runs) (run_record run))

-- the colours of the last run's own
flat-coloured : (colours : PenColors) (runs : List Run) → last_is_plain runs ≡ true → flat_map run_records (coloured colours runs) ≡ flat_map run_records runs ++ colour_record colours ∷ []
flat-coloured colours [] plain = cc
flat-coloured colours (run ∷ []) plain = rw (none_is run.colors plain) refl
  where
    none_is : (o : Option PenColors) → is_none o ≡ true → o ≡ None
    none_is None e = refl
    none_is (Some c) e = cc
flat-coloured colours (run ∷ (next ∷ runs)) plain =
    ap (λ (rs : List Record). run_records run ++ rs) (flat-coloured colours (next ∷ runs) plain)
    ∙ sym (append_assoc (run_records run) (flat_map run_records (next ∷ runs)) (colour_record colours ∷ []))

cue_records-coloured : (cue : Cue) (colours : PenColors) → last_is_plain cue.runs ≡ true → cue_records (cue_with_colours colours cue) ≡ cue_records cue ++ colour_record colours ∷ []
cue_records-coloured cue colours plain =
    rw (cue_record-coloured cue.kind cue colours, flat-coloured colours cue.runs plain)
    (behind_runs (cue_record cue.kind cue) (attribute_records cue.kind) (flat_map run_records cue.runs) (colour_record colours))

-- the attributes of a window's own
no_runs_is : (runs : List Run) → no_runs runs ≡ true → runs ≡ []
no_runs_is [] e = refl
no_runs_is (run ∷ runs) e = cc

attributes_behind : (k : Kind) (cue : Cue) (attributes : WinAttr) → is_bare_window k ≡ true → cue.runs ≡ []
    → cue_record (kind_with_attributes attributes k) (record cue { kind = kind_with_attributes attributes k }) ∷ (attribute_records (kind_with_attributes attributes k) ++ flat_map run_records cue.runs)
    ≡ (cue_record k cue ∷ (attribute_records k ++ flat_map run_records cue.runs)) ++ attribute_record attributes ∷ []
attributes_behind (kind.Pop channel) cue attributes bare none = cc
attributes_behind (kind.Paint channel) cue attributes bare none = cc
attributes_behind (kind.Roll channel rows) cue attributes bare none = cc
attributes_behind (kind.Win window) cue attributes bare none = rw (none, none_is window.attr bare) refl
  where
    none_is : (o : Option WinAttr) → is_none o ≡ true → o ≡ None
    none_is None e = refl
    none_is (Some a) e = cc

-- a share more, before the first cue
no_cues_of : (b : Begun) (last : Option Cue) → b.last ≡ last → is_none last ≡ true → MatchOption last (b.earlier ≡ []) IsCueBegun → cues_of b ≡ []
no_cues_of b None is none begun = rw (is, begun) refl
no_cues_of b (Some cue) is none begun = cc

begun_records-with_share : (b : Begun) (share : Share) → cues_of b ≡ [] → begun_records (record b { shares = b.shares ++ share ∷ [] }) ≡ begun_records b ++ share_record share ∷ []
begun_records-with_share b share none =
    let h = map head_record (option_to_list b.head) in
    let s = map share_record b.shares in
    let more : map share_record (b.shares ++ share ∷ []) ≡ s ++ share_record share ∷ [] = map-append share_record b.shares (share ∷ []) in
    rw (none, more) (ap (λ (rs : List Record). h ++ rs) (append-nil (s ++ share_record share ∷ []))
    ∙ sym (append_assoc h s (share_record share ∷ [])) ∙ ap (λ (rs : List Record). (h ++ rs) ++ share_record share ∷ []) (sym (append-nil s)))

begun_records-with_head : (b : Begun) (head : Head) → b ≡ nothing → begun_records (record b { head = Some head }) ≡ begun_records b ++ head_record head ∷ []
begun_records-with_head b head none = rw none refl

-- a cue without a run is spelled by its record
opened_kind : (k : Kind) (cue : Cue) → IsPlainKind k → cue_record k cue ∷ (attribute_records k ++ []) ≡ cue_record k cue ∷ []
opened_kind (kind.Pop channel) cue plain = refl
opened_kind (kind.Paint channel) cue plain = refl
opened_kind (kind.Roll channel rows) cue plain = refl
opened_kind (kind.Win window) cue plain = rw plain refl

opened : (cue : Cue) → IsPlainKind cue.kind → cue.runs ≡ [] → cue_records cue ≡ cue_record cue.kind cue ∷ []
opened cue plain none = ap (λ (runs : List Run). cue_record cue.kind cue ∷ (attribute_records cue.kind ++ flat_map run_records runs)) none ∙ opened_kind cue.kind cue plain

opens_steps : (b more : Begun) (k : RecordKind) (r : Record) → record_kind_of (field r 0) ≡ Some k → opens_cue k ≡ true → opens b k r ≡ Ok more → begun_records more ≡ begun_records b ++ r ∷ []
opens_steps b more k r is_kind opening taken =
    opens_passed _ b more k r opening taken (λ cue few at same.
    let fields = at.spelled (kind_passed (field r 0) k is_kind) in
    let one : cue_records cue ≡ cue_record cue.kind cue ∷ [] = opened cue at.plain.kind at.runs in
    rw (← same) (begun_records-with_cue b cue ∙ ap (λ (rs : List Record). begun_records b ++ rs) (one ∙ ap (λ (x : Record). x ∷ []) (sym fields))))

adds_steps : (b more : Begun) (k : RecordKind) (r : Record) → IsBegun b → record_kind_of (field r 0) ≡ Some k → may_stand b k ≡ true → adds b k r ≡ Ok more → begun_records more ≡ begun_records b ++ r ∷ []
adds_steps b more record_kind.Ccsuite r begun is_kind may taken =
    with_part _ (head_of r) (λ error failed. let q = rw failed at taken in cc) (λ head is_head.
    let t1 = rw is_head at taken in
    let same : record b { head = Some head } ≡ more = cc in
    let fields : r ≡ head_record head = (head_passed r head is_head).spelled (kind_passed (field r 0) record_kind.Ccsuite is_kind) in
    let none = nothing_before b b.head may begun.head in
    rw (← same) (begun_records-with_head b head none ∙ ap (λ (x : Record). begun_records b ++ x ∷ []) (sym fields)))
adds_steps b more record_kind.Share r begun is_kind may taken =
    let (has_head, none) = both_of (is_some b.head) (is_none b.last) may in
    with_part _ (share_record_of (room_at b.head) b.shares r) (λ error failed. let q = rw failed at taken in cc) (λ share is_share.
    let t1 = rw is_share at taken in
    let same : record b { shares = b.shares ++ share ∷ [] } ≡ more = cc in
    let fields : r ≡ share_record share = (share_passed (room_at b.head) b.shares r share is_share).spelled (kind_passed (field r 0) record_kind.Share is_kind) in
    rw (← same) (begun_records-with_share b share (no_cues_of b b.last refl none begun.last) ∙ ap (λ (x : Record). begun_records b ++ x ∷ []) (sym fields)))
adds_steps b more record_kind.Pop r begun is_kind may taken = opens_steps b more record_kind.Pop r is_kind refl taken
adds_steps b more record_kind.Paint r begun is_kind may taken = opens_steps b more record_kind.Paint r is_kind refl taken
adds_steps b more record_kind.Roll r begun is_kind may taken = opens_steps b more record_kind.Roll r is_kind refl taken
adds_steps b more record_kind.Win r begun is_kind may taken = opens_steps b more record_kind.Win r is_kind refl taken
adds_steps b more record_kind.Attr r begun is_kind may taken =
    let (second, awaits) = both_of (is_second b.head) (awaits_attributes b.last) may in
    last_passes _ b.last awaits_attributes refl awaits (λ cue last.
    with_part _ (attributes_of r) (λ error failed. let q = rw failed at taken in cc) (λ attributes is.
    let t1 = rw (is, last) at taken in
    let same : record b { last = Some (cue_with_attributes attributes cue) } ≡ more = cc in
    let fields : r ≡ attribute_record attributes = (attributes_passed r attributes is).spelled (kind_passed (field r 0) record_kind.Attr is_kind) in
    let (none, bare) = both_of (no_runs cue.runs) (is_bare_window cue.kind) (rw last at awaits) in
    let grown = attributes_behind cue.kind cue attributes bare (no_runs_is cue.runs none) in
    rw (← same) (begun_records-with_last b cue (cue_with_attributes attributes cue) (attribute_record attributes) last grown
    ∙ ap (λ (x : Record). begun_records b ++ x ∷ []) (sym fields))))
adds_steps b more record_kind.Run r begun is_kind may taken =
    with_value _ b.last (λ none. let q = rw none at taken in cc) (λ cue last.
    let t1 = rw last at taken in
    with_part _ (run_of cue.kind cue.runs r) (λ error failed. let q = rw failed at t1 in cc) (λ run is_run.
    let t2 = rw is_run at t1 in
    let same : record b { last = Some (cue_with_run cue run) } ≡ more = cc in
    let open_cue : IsCueBegun cue = rw last at begun.last in
    let at = run_passed cue.kind cue.hide cue.runs r run open_cue.kind is_run in
    let fields : r ≡ run_record run = at.spelled (kind_passed (field r 0) record_kind.Run is_kind) in
    rw (← same) (begun_records-with_last b cue (cue_with_run cue run) (run_record run) last (cue_records-with_run cue run at.plain)
    ∙ ap (λ (x : Record). begun_records b ++ x ∷ []) (sym fields))))
adds_steps b more record_kind.Colour r begun is_kind may taken =
    let (second, awaits) = both_of (is_second b.head) (awaits_colours b.last) may in
    last_passes _ b.last awaits_colours refl awaits (λ cue last.
    with_part _ (colours_of r) (λ error failed. let q = rw failed at taken in cc) (λ colours is.
    let t1 = rw (is, last) at taken in
    let same : record b { last = Some (cue_with_colours colours cue) } ≡ more = cc in
    let fields : r ≡ colour_record colours = (colours_passed r colours is).spelled (kind_passed (field r 0) record_kind.Colour is_kind) in
    let (window, plain) = both_of (is_window cue.kind) (last_is_plain cue.runs) (rw last at awaits) in
    rw (← same) (begun_records-with_last b cue (cue_with_colours colours cue) (colour_record colours) last (cue_records-coloured cue colours plain)
    ∙ ap (λ (x : Record). begun_records b ++ x ∷ []) (sym fields))))

pub next_steps : (b more : Begun) (r : Record) → IsBegun b → next b r ≡ Ok more → begun_records more ≡ begun_records b ++ r ∷ []
next_steps b more r begun taken = next_passed _ b more r taken (λ k is_kind may added. adds_steps b more k r begun is_kind may added)

-- what the records so far are known to be
pub record Read (before : List Record) (b : Begun) : Type 0 where
  pub begins : (before ≡ begun_records b) × IsBegun b

pub read_more : (before : List Record) (b more : Begun) (r : Record) → Read before b → next b r ≡ Ok more → Read (before ++ r ∷ []) more
read_more before b more r so_far taken =
    let step = next_steps b more r so_far.begins.1 taken in
    record { begins = (ap (λ (rs : List Record). rs ++ r ∷ []) so_far.begins.0 ∙ sym step, IsBegun-next b more r so_far.begins.1 taken) }

pub read_nothing : Read [] nothing
read_nothing = record { begins = (refl, IsBegun-nothing) }

-- a list that ended well
ended_spells : (before : List Record) (b : Begun) (head : Head) → Read before b → b.head ≡ Some head → awaits_run b.last ≡ false
    → SpellsList before (record { rate = head.rate; frames = head.frames; shares = b.shares; cues = cues_of b })
ended_spells before b head so_far is full =
    record {
      version = head.version;
      are = so_far.begins.0 ∙ rw is refl;
      formed = IsFormed-list_ended b head so_far.begins.1 is full;
      allowed = (headed b head so_far.begins.1 is).version;
    }

pub spelled_from : (before rs : List Record) (b : Begun) (number : ℕ) (l : Listing) → Read before b → read_from b number rs ≡ Ok l → SpellsList (before ++ rs) l
spelled_from before [] b number l so_far taken =
    with_value _ b.head (λ none. let q = rw none at taken in cc) (λ head is.
    let t1 = rw is at taken in
    let full = denied (awaits_run b.last) (λ awaits. let q = rw awaits at t1 in cc) in
    let t2 = rw full at t1 in
    let same : record { rate = head.rate; frames = head.frames; shares = b.shares; cues = cues_of b } ≡ l = cc in
    rw (append-nil, ← same) (ended_spells before b head so_far is full))
spelled_from before (r ∷ rs) b number l so_far taken =
    with_part _ (next b r) (λ error failed. let q = rw failed at taken in cc) (λ more is_more.
    let t1 = rw is_more at taken in
    rw (← append_assoc before (r ∷ []) rs) (spelled_from (before ++ r ∷ []) rs more (number + 1) l (read_more before b more r so_far is_more) t1))

-- records that were read as a list spell it
pub list_of_spelled : (rs : List Record) (l : Listing) → spelled_list rs ≡ Ok l → SpellsList rs l
list_of_spelled rs l taken = spelled_from [] rs nothing 1 l read_nothing taken
