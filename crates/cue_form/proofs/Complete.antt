-- Records that spell a cue list are read as that list.
use Rattle.std.proofs.Common.{◌≡◌, ◌≢◌, ℕ, zero, suc, ◌+◌, ◌-◌, ◌<◌, ◌≤◌, ◌==◌, Bool, true, false, nat_lt, List, [], ◌∷◌, ◌++◌, map, length, get_or, All, encode_utf8_all, IsUtf8, Option, Some, None, option_to_list, Ok, arith, refl, sym, ap, subst, ◌∙◌, append_assoc, length-append, eq-eqb, le-leb, lt-ltb, ne_eqb, if◌then◌else◌}
use Rattle.std.specs.List.{flat_map, list_all, list_any}
use Rattle.std.specs.Prelude.{decimal, IfSome, option_map, option_to_list}
use Rattle.std.specs.Str.{all_scalars}
use Rattle.std.proofs.lemmas.Fmt.{decimal_digit}
use Rattle.std.proofs.lemmas.List.{append-nil}
use Rattle.std.proofs.lemmas.List.Elements.{All-cons, All-head, All-nil, All-tail}
use Rattle.std.proofs.lemmas.List.Sums.{sum_by-append, sum_by-cons}
use Rattle.std.proofs.lemmas.Str.{chars-encodes, is_utf8-from_IsUtf8, length-le-encodes}
use Rattle.dtvcc_codes.specs.Spellable.{IsFill, IsPenColors, IsRgb}
use Rattle.dtvcc_codes.specs.declared.pens.Fill.{Fill}
use Rattle.dtvcc_codes.specs.declared.pens.PenColors.{PenColors}
use Rattle.dtvcc_codes.specs.declared.pens.Rgb.{Rgb}
use Rattle.dtvcc_codes.specs.declared.windows.WinAttr.{WinAttr}
use Rattle.line21_codes.specs.declared.channels.Chan.{Chan}
use Rattle.cue_form.specs.Begun.{AreOfVersion, Begun, IsCueBegun, IsPlain, IsPlainKind, awaits_run, cue_with_run, no_runs, nothing}
use Rattle.cue_form.specs.Fields.{fill_field, is_two_bits, named, number_within, pen_field, plain_words, rgb_field}
use Rattle.cue_form.specs.Form.{cue_columns, first_row, is_coded, is_second, is_window, last_is_plain, last_row, run_pen_field, suits_row, version_words}
use Rattle.cue_form.specs.Reading.{attributes_of, colours_of, next, read_from, run_of, spelled_list}
use Rattle.cue_form.specs.Records.{Record}
use Rattle.cue_form.specs.Spelling.{SpellsList, attribute_record, attribute_records, colour_record, cue_record, cue_records, fill_word, head_record, pen_word, rgb_word, run_record, run_records, share_record, version_word}
use Rattle.cue_types.specs.Coloured.{coloured}
use Rattle.cue_types.specs.Cues.{IsCueFormed, IsOfKind}
use Rattle.cue_types.specs.Line21Cues.{IsLine21Pen, IsLine21Run, base_row}
use Rattle.cue_types.specs.Listing.{IsListRate, Listing}
use Rattle.cue_types.specs.Shares.{AreShares, IsShare, share_room, shares_taken}
use Rattle.cue_types.specs.Windows.{AreWindowAttributes, IsWindow, IsWindowPen, IsWindowRun}
use Rattle.cue_types.specs.declared.cue.Cue.{Cue}
use Rattle.cue_types.specs.declared.cue.Kind.{Kind}
use Rattle.cue_types.specs.declared.cue.Kind.TheVariants as kind
use Rattle.cue_types.specs.declared.cue.Pen.{Pen}
use Rattle.cue_types.specs.declared.cue.Pen.TheVariants as pen
use Rattle.cue_types.specs.declared.cue.Run.{Run}
use Rattle.cue_types.specs.declared.cue.WinCue.{WinCue}
use Rattle.cue_types.specs.declared.head.Head.{Head}
use Rattle.cue_types.specs.declared.head.Version.{Version}
use Rattle.cue_types.specs.declared.head.Version.TheVariants as version
use Rattle.cue_types.specs.declared.list.Share.{Share}
use Rattle.cue_form.proofs.CodedFacts.{coded_scalars, coded_tests, window_scalars, window_tests}
use Rattle.cue_form.proofs.NumberFacts.{frame_field-decimal}
use Rattle.cue_form.proofs.RecordNumberFacts.{number_field-decimal, number_within-decimal}
use Rattle.cue_form.proofs.RecordFacts.{IsRunOf}
use Rattle.cue_form.proofs.WordsRead.{channel_field-channel_name, frame_or_none_field-hide_word, pen_field-pen_word, rate_field-rate_word}

-- these records lead from one begun list to another, whatever follows
pub record LeadsTo (from : Begun) (records : List Record) (to : Begun) : Type 0 where
  pub read : (number : ℕ) (rest : List Record) → read_from from number (records ++ rest) ≡ read_from to (number + length records) rest

pub leads_nowhere : (b : Begun) → LeadsTo b [] b
leads_nowhere b = record { read = λ number rest. let same : number + 0 ≡ number = omega arith in rw same refl }

pub leads_on : (a b c : Begun) (xs ys : List Record) → LeadsTo a xs b → LeadsTo b ys c → LeadsTo a (xs ++ ys) c
leads_on a b c xs ys first second = record {
  read = λ number rest.
      let count : number + length xs + length ys ≡ number + length (xs ++ ys) = rw length-append (omega arith) in
      ap (read_from a number) (append_assoc xs ys rest) ∙ first.read number (ys ++ rest) ∙ second.read (number + length xs) rest ∙ ap (λ n. read_from c n rest) count;
}

pub leads_by : (a b : Begun) (r : Record) → next a r ≡ Ok b → LeadsTo a (r ∷ []) b
leads_by a b r taken = record { read = λ number rest. rw taken refl }

-- a begun list of its parts
abbrev pub begun_of : Option Head → List Share → List Cue → Option Cue → Begun
begun_of head shares earlier last = record { head = head; shares = shares; earlier = earlier; last = last }

-- the head
version_read : (v : Version) → named version_words (version_word v) ≡ Some v
version_read version.One = refl
version_read version.Two = refl

pub head_read : (head : Head) → IsListRate head.rate → 1 ≤ head.frames → head.frames ≤ 1000000 → LeadsTo nothing (head_record head ∷ []) (begun_of (Some head) [] [] None)
head_read head rated some frames =
    leads_by nothing (begun_of (Some head) [] [] None) (head_record head)
    (rw (version_read head.version, rate_field-rate_word head.rate rated, number_field-decimal head.frames (omega arith), le-leb 1 head.frames some, le-leb head.frames 1000000 frames) refl)

-- an element between others
All-middle : {X : Type 0} (P : X → Type 0) (before : List X) (x : X) (after : List X) → All P (before ++ x ∷ after) → P x
All-middle P [] x after each = All-head P x after each
All-middle P (y ∷ ys) x after each = All-middle P ys x after (All-tail P y (ys ++ x ∷ after) each)

get_front : {X : Type 0} (xs ys : List X) (k : ℕ) (d : X) → k < length xs → get_or (xs ++ ys) k d ≡ get_or xs k d
get_front [] ys k d within = absurd (omega arith)
get_front (x ∷ xs) ys zero d within = refl
get_front (x ∷ xs) ys (suc k) d within = get_front xs ys k d (omega arith)

get_middle : {X : Type 0} (xs : List X) (x : X) (ys : List X) (d : X) → get_or (xs ++ x ∷ ys) (length xs) d ≡ x
get_middle [] x ys d = refl
get_middle (y ∷ xs) x ys d = get_middle xs x ys d

-- shares
none_is_same : (shares : List Share) (service : ℕ) → All (λ (former : Share). former.service ≢ service) shares → list_any (λ (former : Share). former.service == service) shares ≡ false
none_is_same [] service differ = refl
none_is_same (share ∷ shares) service differ =
    rw (
      ne_eqb share.service service (All-head (λ (former : Share). former.service ≢ service) share shares differ),
      none_is_same shares service (All-tail (λ (former : Share). former.service ≢ service) share shares differ),
    ) refl

share_read : (head : Head) (done more : List Share) (share : Share) → AreShares head.rate (done ++ share ∷ more)
    → next (begun_of (Some head) done [] None) (share_record share) ≡ Ok (begun_of (Some head) (done ++ share ∷ []) [] None)
share_read head done more share are =
    let own = All-middle IsShare done share more are.each in
    let differ : All (λ (former : Share). former.service ≢ share.service) done = λ k d within same.
    let whole : length done < length (done ++ share ∷ more) = rw length-append (omega arith) in
    are.once k (length done) d within whole (ap (λ (s : Share). s.service) (get_front done (share ∷ more) k d within) ∙ same ∙ sym (ap (λ (s : Share). s.service) (get_middle done share more d))) in
    let total = sum_by-append (λ (s : Share). s.bytes + 1) done (share ∷ more) in
    let here = sum_by-cons (λ (s : Share). s.bytes + 1) share more in
    let room : shares_taken done + (share.bytes + 1) ≤ share_room head.rate = let all = are.fits in omega (arith, total, here) in
    rw (
      number_within-decimal 1 6 share.service own.service.0 own.service.1 (omega (arith, own.service.1)),
      none_is_same done share.service differ,
      number_within-decimal 8 31 share.bytes own.bytes.0 own.bytes.1 (omega (arith, own.bytes.1)),
      le-leb (shares_taken done + (share.bytes + 1)) (share_room head.rate) room,
    ) refl

pub shares_read : (head : Head) (done todo : List Share) → AreShares head.rate (done ++ todo)
    → LeadsTo (begun_of (Some head) done [] None) (map share_record todo) (begun_of (Some head) (done ++ todo) [] None)
shares_read head done [] are = rw append-nil (leads_nowhere (begun_of (Some head) done [] None))
shares_read head done (share ∷ more) are =
    let joined : (done ++ share ∷ []) ++ more ≡ done ++ share ∷ more = append_assoc done (share ∷ []) more in
    let rest = shares_read head (done ++ share ∷ []) more (subst (AreShares head.rate) (sym joined) are) in
    leads_on (begun_of (Some head) done [] None) (begun_of (Some head) (done ++ share ∷ []) [] None) (begun_of (Some head) (done ++ share ∷ more) [] None)
    (share_record share ∷ []) (map share_record more)
    (leads_by _ _ (share_record share) (share_read head done more share are))
    (subst (λ (s : List Share). LeadsTo (begun_of (Some head) (done ++ share ∷ []) [] None) (map share_record more) (begun_of (Some head) s [] None)) joined rest)

-- a text's field is read
pub record IsReadable (k : Kind) (run : Run) : Type 0 where
  pub row : (first_row k ≤ run.row) × (run.row ≤ last_row k) × (run.row < 100)
  pub col : (run.col ≤ cue_columns k - 1) × (run.col < 100)
  pub pen : run_pen_field k (pen_word run.pen) ≡ Some run.pen
  pub some : 1 ≤ length run.text
  pub fits : run.col + length run.text ≤ cue_columns k
  pub scalars : all_scalars run.text ≡ true
  pub coded : list_all (is_coded k) run.text ≡ true

run_read : (k : Kind) (runs : List Run) (run : Run) → IsReadable k run → suits_row k runs run.row ≡ true
    → run_of k runs (run_record run) ≡ Ok (record run { colors = None })
run_read k runs run at suits =
    let utf8 : IsUtf8 (encode_utf8_all run.text) = (run.text, (at.scalars, refl)) in
    let long = length-le-encodes run.text in
    let bytes : nat_lt 0 (length (encode_utf8_all run.text)) ≡ true = lt-ltb 0 (length (encode_utf8_all run.text)) (let some = at.some in omega arith) in
    rw (
      number_within-decimal (first_row k) (last_row k) run.row at.row.0 at.row.1 (let small = at.row.2 in omega arith),
      suits,
      number_within-decimal 0 (cue_columns k - 1) run.col (omega arith) at.col.0 (let small = at.col.1 in omega arith),
      at.pen,
      is_utf8-from_IsUtf8 (encode_utf8_all run.text) utf8,
      bytes,
      chars-encodes run.text at.scalars,
      at.coded,
      le-leb (run.col + length run.text) (cue_columns k) at.fits,
    ) refl

pub line21_pen_read : (p : Pen) → IsLine21Pen p → option_map (λ style. pen.Line21 style) (pen_field (pen_word p)) ≡ Some p
line21_pen_read (pen.Line21 style) formed = rw (pen_field-pen_word style.colour style.italic style.underline formed) refl
line21_pen_read (pen.Dtv italic underline) formed = absurd formed

pub window_pen_read : (p : Pen) → IsWindowPen p → named plain_words (pen_word p) ≡ Some p
window_pen_read (pen.Line21 style) formed = absurd formed
window_pen_read (pen.Dtv false false) formed = refl
window_pen_read (pen.Dtv true false) formed = refl
window_pen_read (pen.Dtv false true) formed = refl
window_pen_read (pen.Dtv true true) formed = refl

readable : (k : Kind) (hide : Option ℕ) (runs : List Run) (run : Run) → IsOfKind k hide runs → IsRunOf k run → IsReadable k run
readable (kind.Pop channel) hide runs run of_kind formed = record {
  row = (formed.row.0, formed.row.1, (let low = formed.row.1 in omega arith));
  col = (formed.col, (let low = formed.col in omega arith));
  pen = line21_pen_read run.pen formed.pen;
  some = formed.some;
  fits = formed.fits;
  scalars = coded_scalars run.text formed.coded;
  coded = coded_tests (kind.Pop channel) refl run.text formed.coded;
}
readable (kind.Paint channel) hide runs run of_kind formed = record {
  row = (formed.row.0, formed.row.1, (let low = formed.row.1 in omega arith));
  col = (formed.col, (let low = formed.col in omega arith));
  pen = line21_pen_read run.pen formed.pen;
  some = formed.some;
  fits = formed.fits;
  scalars = coded_scalars run.text formed.coded;
  coded = coded_tests (kind.Paint channel) refl run.text formed.coded;
}
readable (kind.Roll channel rows) hide runs run of_kind formed = record {
  row = (formed.row.0, formed.row.1, (let low = formed.row.1 in omega arith));
  col = (formed.col, (let low = formed.col in omega arith));
  pen = line21_pen_read run.pen formed.pen;
  some = formed.some;
  fits = formed.fits;
  scalars = coded_scalars run.text formed.coded;
  coded = coded_tests (kind.Roll channel rows) refl run.text formed.coded;
}
readable (kind.Win window) hide runs run of_kind formed =
    let w : IsWindow window = of_kind.0 in
    record {
      row = (omega arith, (let low = formed.row in omega arith), (let low = formed.row in let most = w.rows.1 in omega arith));
      col = ((let low = formed.col in omega arith), (let low = formed.col in let most = w.cols.1 in omega arith));
      pen = window_pen_read run.pen formed.pen;
      some = formed.some;
      fits = formed.fits;
      scalars = window_scalars run.text formed.coded;
      coded = window_tests window run.text formed.coded;
    }

-- a run more of the last cue, with its colours
run_step : (head : Option Head) (shares : List Share) (earlier : List Cue) (cue : Cue) (run : Run) → IsReadable cue.kind run → suits_row cue.kind cue.runs run.row ≡ true
    → next (begun_of head shares earlier (Some cue)) (run_record run) ≡ Ok (begun_of head shares earlier (Some (cue_with_run cue (record run { colors = None }))))
run_step head shares earlier cue run at suits = rw (run_read cue.kind cue.runs run at suits) refl

-- digits are read back
digit_read : (d : ℕ) → d < 4 → (decimal d ≡ (48 + d) ∷ []) × (is_two_bits (48 + d) ≡ true) × (48 + d - 48 ≡ d)
digit_read d small = (decimal_digit d (omega arith), rw (le-leb 48 (48 + d) (omega arith), le-leb (48 + d) 51 (omega arith)) refl, omega arith)

pub rgb_read : (value : Rgb) → IsRgb value → rgb_field (rgb_word value) ≡ Some value
rgb_read value is =
    let (r, r_test, r_back) = digit_read value.r is.r in
    let (g, g_test, g_back) = digit_read value.g is.g in
    let (b, b_test, b_back) = digit_read value.b is.b in
    rw (r, g, b) (rw (r_test, g_test, b_test) (rw (r_back, g_back, b_back) refl))

pub fill_read : (value : Fill) → IsFill value → fill_field (fill_word value) ≡ Some value
fill_read value is =
    let (o, o_test, o_back) = digit_read value.opacity is.opacity in
    let (r, r_test, r_back) = digit_read value.r is.r in
    let (g, g_test, g_back) = digit_read value.g is.g in
    let (b, b_test, b_back) = digit_read value.b is.b in
    rw (o, r, g, b) (rw (o_test, r_test, g_test, b_test) (rw (o_back, r_back, g_back, b_back) refl))

colours_read : (colours : PenColors) → IsPenColors colours → colours_of (colour_record colours) ≡ Ok colours
colours_read colours is = rw (fill_read colours.fg is.fg, fill_read colours.bg is.bg, rgb_read colours.edge is.edge) refl

wrap_read : (wrap : Bool)
    → (number_within 0 1 (decimal (if wrap then 1 else 0)) ≡ Some (if wrap then 1 else 0)) × (((if wrap then 1 else 0) == 1) ≡ wrap)
wrap_read true = (number_within-decimal 0 1 1 (omega arith) (omega arith) (omega arith), refl)
wrap_read false = (number_within-decimal 0 1 0 (omega arith) (omega arith) (omega arith), refl)

attributes_read : (attributes : WinAttr) → AreWindowAttributes attributes → attributes_of (attribute_record attributes) ≡ Ok attributes
attributes_read attributes is =
    let a = is.spellable in
    let (wrap, wraps) = wrap_read attributes.wrap in
    rw (
      number_within-decimal 0 3 attributes.justify (omega arith) (let low = a.justify in omega arith) (let low = a.justify in omega arith),
      number_within-decimal 0 3 attributes.print (omega arith) (let low = a.print in omega arith) (let low = a.print in omega arith),
      number_within-decimal 0 3 attributes.scroll (omega arith) (let low = a.scroll in omega arith) (let low = a.scroll in omega arith),
      wrap,
      number_within-decimal 0 2 attributes.effect (omega arith) is.effect (let low = is.effect in omega arith),
      number_within-decimal 0 3 attributes.effect_dir (omega arith) (let low = a.effect_dir in omega arith) (let low = a.effect_dir in omega arith),
      number_within-decimal 0 15 attributes.effect_speed (omega arith) (let low = a.effect_speed in omega arith) (let low = a.effect_speed in omega arith),
      fill_read attributes.fill a.fill,
      number_within-decimal 0 5 attributes.border_kind (omega arith) is.border_kind (let low = is.border_kind in omega arith),
      rgb_read attributes.border a.border,
      wraps,
    ) refl

-- what stands in a list of version 2 alone
second_is : (head : Head) → head.version ≡ version.Two → is_second (Some head) ≡ true
second_is head is = rw is refl

-- the runs with one more, and its colours
plain_last : (done : List Run) (run : Run) → last_is_plain (done ++ record run { colors = None } ∷ []) ≡ true
plain_last [] run = refl
plain_last (first ∷ []) run = refl
plain_last (first ∷ (second ∷ done)) run = plain_last (second ∷ done) run

coloured_last : (done : List Run) (run : Run) (colours : PenColors) → run.colors ≡ Some colours
    → coloured colours (done ++ record run { colors = None } ∷ []) ≡ done ++ run ∷ []
coloured_last [] run colours is = ap (λ (c : Option PenColors). record run { colors = c } ∷ []) (sym is)
coloured_last (first ∷ []) run colours is = ap (λ (c : Option PenColors). first ∷ (record run { colors = c } ∷ [])) (sym is)
coloured_last (first ∷ (second ∷ done)) run colours is = ap (λ (rs : List Run). first ∷ rs) (coloured_last (second ∷ done) run colours is)

-- the list with this many runs of its last cue
abbrev with_runs : Head → List Share → List Cue → Cue → List Run → Begun
with_runs head shares earlier cue runs = begun_of (Some head) shares earlier (Some (record cue { runs = runs }))

-- colours of a run's own stand in windows of version 2, in their ranges
abbrev MayColour : Head → Kind → Option PenColors → Type 0
MayColour head k None = Unit {0}
MayColour head k (Some colours) = (head.version ≡ version.Two) × (is_window k ≡ true) × IsPenColors colours

-- a run of the last cue, with the colours of its own
run_reads : (head : Head) (shares : List Share) (earlier : List Cue) (cue : Cue) (done : List Run) (run : Run) (colours : Option PenColors) → run.colors ≡ colours
    → IsReadable cue.kind run → suits_row cue.kind done run.row ≡ true → MayColour head cue.kind colours
    → LeadsTo (with_runs head shares earlier cue done) (run_record run ∷ map colour_record (option_to_list colours)) (with_runs head shares earlier cue (done ++ run ∷ []))
run_reads head shares earlier cue done run None is at suits own =
    subst (λ (r : Run). LeadsTo (with_runs head shares earlier cue done) (run_record run ∷ []) (with_runs head shares earlier cue (done ++ r ∷ []))) (ap (λ (c : Option PenColors). record run { colors = c }) (sym is))
    (leads_by (with_runs head shares earlier cue done) (with_runs head shares earlier cue (done ++ record run { colors = None } ∷ [])) (run_record run)
    (run_step (Some head) shares earlier (record cue { runs = done }) run at suits))
run_reads head shares earlier cue done run (Some colours) is at suits own =
    let plain = with_runs head shares earlier cue (done ++ record run { colors = None } ∷ []) in
    let taken : next plain (colour_record colours) ≡ Ok (with_runs head shares earlier cue (coloured colours (done ++ record run { colors = None } ∷ []))) =
    rw (second_is head own.0, own.1, plain_last done run, colours_read colours own.2) refl in
    leads_on (with_runs head shares earlier cue done) plain (with_runs head shares earlier cue (done ++ run ∷ [])) (run_record run ∷ []) (colour_record colours ∷ [])
    (leads_by (with_runs head shares earlier cue done) plain (run_record run) (run_step (Some head) shares earlier (record cue { runs = done }) run at suits))
    (leads_by plain (with_runs head shares earlier cue (done ++ run ∷ [])) (colour_record colours)
    (taken ∙ ap (λ (rs : List Run). Ok (with_runs head shares earlier cue rs)) (coloured_last done run colours is)))

-- a run between the others of its cue suits it
suits_rolled : (rows : ℕ) (done : List Run) (run : Run) (runs : List Run) → rows ≤ run.row → run.row ≡ base_row (done ++ run ∷ runs)
    → (channel : Chan) → suits_row (kind.Roll channel rows) done run.row ≡ true
suits_rolled rows [] run runs room same channel = rw (le-leb rows run.row room) refl
suits_rolled rows (first ∷ done) run runs room same channel = rw (le-leb rows run.row room, eq-eqb run.row first.row same) refl

run_between : (k : Kind) (hide : Option ℕ) (done : List Run) (run : Run) (runs : List Run) → IsOfKind k hide (done ++ run ∷ runs)
    → IsRunOf k run × (suits_row k done run.row ≡ true)
run_between (kind.Pop channel) hide done run runs formed = (All-middle IsLine21Run done run runs formed.2, refl)
run_between (kind.Paint channel) hide done run runs formed = (All-middle IsLine21Run done run runs formed.2, refl)
run_between (kind.Roll channel rows) hide done run runs formed =
    let room = All-middle (λ (q : Run). rows ≤ q.row) done run runs formed.1.room in
    let row = All-middle (λ (q : Run). q.row ≡ base_row (done ++ run ∷ runs)) done run runs formed.1.one_row in
    (All-middle IsLine21Run done run runs formed.2, suits_rolled rows done run runs room row channel)
run_between (kind.Win window) hide done run runs formed = (All-middle (IsWindowRun window) done run runs formed.2, refl)

-- what a version lets a run have
may_colour : (head : Head) (v : Version) (k : Kind) (run : Run) (colours : Option PenColors) → head.version ≡ v → run.colors ≡ colours → IsRunOf k run
    → (v ≡ version.One → run.colors ≡ None) → MayColour head k colours
may_colour head v k run None is same formed plain = tt
may_colour head version.One k run (Some colours) is same formed plain = absurd (let q = sym same ∙ plain refl in cc)
may_colour head version.Two (kind.Pop channel) run (Some colours) is same formed plain = absurd (let q = sym same ∙ formed.colors in cc)
may_colour head version.Two (kind.Paint channel) run (Some colours) is same formed plain = absurd (let q = sym same ∙ formed.colors in cc)
may_colour head version.Two (kind.Roll channel rows) run (Some colours) is same formed plain = absurd (let q = sym same ∙ formed.colors in cc)
may_colour head version.Two (kind.Win window) run (Some colours) is same formed plain = (is, refl, let own = rw same at formed.colors in own)

-- the runs of the last cue
runs_read : (head : Head) (shares : List Share) (earlier : List Cue) (cue : Cue) (done runs : List Run) → IsOfKind cue.kind cue.hide (done ++ runs)
    → (head.version ≡ version.One → All (λ (run : Run). run.colors ≡ None) runs)
    → LeadsTo (with_runs head shares earlier cue done) (flat_map run_records runs) (with_runs head shares earlier cue (done ++ runs))
runs_read head shares earlier cue done [] formed plain = rw append-nil (leads_nowhere (with_runs head shares earlier cue done))
runs_read head shares earlier cue done (run ∷ runs) formed plain =
    let (own, suits) = run_between cue.kind cue.hide done run runs formed in
    let joined : (done ++ run ∷ []) ++ runs ≡ done ++ run ∷ runs = append_assoc done (run ∷ []) runs in
    let may = may_colour head head.version cue.kind run run.colors refl refl own (λ one. All-head (λ (r : Run). r.colors ≡ None) run runs (plain one)) in
    let rest = runs_read head shares earlier cue (done ++ run ∷ []) runs (subst (IsOfKind cue.kind cue.hide) (sym joined) formed) (λ one. All-tail (λ (r : Run). r.colors ≡ None) run runs (plain one)) in
    leads_on (with_runs head shares earlier cue done) (with_runs head shares earlier cue (done ++ run ∷ [])) (with_runs head shares earlier cue (done ++ run ∷ runs)) (run_records run) (flat_map run_records runs)
    (run_reads head shares earlier cue done run run.colors refl (readable cue.kind cue.hide (done ++ run ∷ runs) run formed own) suits may)
    (subst (λ (rs : List Run). LeadsTo (with_runs head shares earlier cue (done ++ run ∷ [])) (flat_map run_records runs) (with_runs head shares earlier cue rs)) joined rest)

-- a cue's record, which tells neither its runs nor the attributes of its window's own
abbrev bare : Kind → Kind
bare (kind.Pop channel) = kind.Pop channel
bare (kind.Paint channel) = kind.Paint channel
bare (kind.Roll channel rows) = kind.Roll channel rows
bare (kind.Win window) = kind.Win (record window { attr = None })

next_cue : (head : Head) (shares : List Share) (earlier : List Cue) (last : Option Cue) (cue : Cue) (load show : ℕ) (hide : Option ℕ) (k : Kind) (runs : List Run)
    → IsCueBegun (record { load = load; show = show; hide = hide; kind = k; runs = runs }) → awaits_run last ≡ false → length (earlier ++ option_to_list last) < 20000
    → next (begun_of (Some head) shares earlier last) (cue_record k (record { load = load; show = show; hide = hide; kind = k; runs = runs }))
    ≡ Ok (begun_of (Some head) shares (earlier ++ option_to_list last) (Some (record { load = load; show = show; hide = hide; kind = bare k; runs = [] })))
next_cue head shares earlier last cue load show (Some hide) (kind.Pop channel) runs begun full few =
    rw (full, lt-ltb (length (earlier ++ option_to_list last)) 20000 few, channel_field-channel_name channel begun.kind.0, frame_field-decimal load begun.load, frame_field-decimal show begun.show, frame_field-decimal hide begun.hide) refl
next_cue head shares earlier last cue load show None (kind.Pop channel) runs begun full few = let q = begun.kind.1 in cc
next_cue head shares earlier last cue load show (Some hide) (kind.Paint channel) runs begun full few =
    rw (full, lt-ltb (length (earlier ++ option_to_list last)) 20000 few, channel_field-channel_name channel begun.kind.0, frame_field-decimal load begun.load, frame_field-decimal show begun.show, frame_field-decimal hide begun.hide) refl
next_cue head shares earlier last cue load show None (kind.Paint channel) runs begun full few = let q = begun.kind.1 in cc
next_cue head shares earlier last cue load show hide (kind.Roll channel rows) runs begun full few =
    let number = begun.kind.1.number in
    rw (
      full,
      lt-ltb (length (earlier ++ option_to_list last)) 20000 few,
      channel_field-channel_name channel begun.kind.0,
      number_within-decimal 2 4 rows number.0 number.1 (let most = number.1 in omega arith),
      frame_field-decimal load begun.load,
      frame_field-decimal show begun.show,
      frame_or_none_field-hide_word hide begun.hide,
    ) refl
next_cue head shares earlier last cue load show None (kind.Win w) runs begun full few = let q = begun.kind.1 in cc
next_cue head shares earlier last cue load show (Some hide) (kind.Win w) runs begun full few =
    let is = begun.kind.0 in
    rw (
      full,
      lt-ltb (length (earlier ++ option_to_list last)) 20000 few,
      number_within-decimal 1 6 w.service is.service.0 is.service.1 (let most = is.service.1 in omega arith),
      number_within-decimal 0 7 w.id (omega arith) is.id (let most = is.id in omega arith),
      frame_field-decimal load begun.load,
      frame_field-decimal show begun.show,
      frame_field-decimal hide begun.hide,
      number_within-decimal 0 255 w.delay (omega arith) is.delay (let most = is.delay in omega arith),
      number_within-decimal 0 8 w.anchor (omega arith) is.anchor (let most = is.anchor in omega arith),
      number_within-decimal 0 74 w.av (omega arith) is.av (let most = is.av in omega arith),
      number_within-decimal 0 209 w.ah (omega arith) is.ah (let most = is.ah in omega arith),
      number_within-decimal 1 12 w.rows is.rows.0 is.rows.1 (let most = is.rows.1 in omega arith),
      number_within-decimal 1 42 w.cols is.cols.0 is.cols.1 (let most = is.cols.1 in omega arith),
      number_within-decimal 0 7 w.priority (omega arith) is.priority (let most = is.priority in omega arith),
      number_within-decimal 1 7 w.ws is.ws.0 is.ws.1 (let most = is.ws.1 in omega arith),
      number_within-decimal 1 7 w.ps is.ps.0 is.ps.1 (let most = is.ps.1 in omega arith),
    ) refl

-- the attributes of a window's own, where it has them
attributes_lead : (head : Head) (shares : List Share) (earlier : List Cue) (load show : ℕ) (hide : Option ℕ) (w : WinCue) (attr : Option WinAttr) → IfSome attr AreWindowAttributes
    → (head.version ≡ version.One → attr ≡ None)
    → LeadsTo (begun_of (Some head) shares earlier (Some (record { load = load; show = show; hide = hide; kind = kind.Win (record w { attr = None }); runs = [] })))
    (map attribute_record (option_to_list attr))
    (begun_of (Some head) shares earlier (Some (record { load = load; show = show; hide = hide; kind = kind.Win (record w { attr = attr }); runs = [] })))
attributes_lead head shares earlier load show hide w None formed plain = leads_nowhere _
attributes_lead head shares earlier load show hide w (Some attributes) formed plain =
    leads_by _ _ (attribute_record attributes) (rw (second_is head (two head.version refl), attributes_read attributes formed) refl)
  where
    two : (v : Version) → head.version ≡ v → head.version ≡ version.Two
    two version.One is = absurd (let q = plain is in cc)
    two version.Two is = is

kind_leads : (head : Head) (shares : List Share) (earlier : List Cue) (load show : ℕ) (hide : Option ℕ) (k : Kind) (runs : List Run) → IsOfKind k hide runs
    → (head.version ≡ version.One → IsPlainKind k)
    → LeadsTo (begun_of (Some head) shares earlier (Some (record { load = load; show = show; hide = hide; kind = bare k; runs = [] })))
    (attribute_records k)
    (begun_of (Some head) shares earlier (Some (record { load = load; show = show; hide = hide; kind = k; runs = [] })))
kind_leads head shares earlier load show hide (kind.Pop channel) runs formed plain = leads_nowhere _
kind_leads head shares earlier load show hide (kind.Paint channel) runs formed plain = leads_nowhere _
kind_leads head shares earlier load show hide (kind.Roll channel rows) runs formed plain = leads_nowhere _
kind_leads head shares earlier load show hide (kind.Win window) runs formed plain = attributes_lead head shares earlier load show hide window window.attr formed.0.attr plain

-- what a version lets a cue have
plain_cue : (v : Version) (cue : Cue) → AreOfVersion v (cue ∷ []) → v ≡ version.One → IsPlain cue
plain_cue version.One cue are is = All-head IsPlain cue [] are
plain_cue version.Two cue are is = cc

-- a cue is read
pub cue_read : (head : Head) (shares : List Share) (earlier : List Cue) (last : Option Cue) (cue : Cue) → IsCueBegun cue → AreOfVersion head.version (cue ∷ [])
    → awaits_run last ≡ false → length (earlier ++ option_to_list last) < 20000
    → LeadsTo (begun_of (Some head) shares earlier last) (cue_records cue) (begun_of (Some head) shares (earlier ++ option_to_list last) (Some cue))
cue_read head shares earlier last cue begun are full few =
    let former = earlier ++ option_to_list last in
    let opened = begun_of (Some head) shares former (Some (record cue { kind = bare cue.kind; runs = [] })) in
    let ready = begun_of (Some head) shares former (Some (record cue { runs = [] })) in
    let whole = begun_of (Some head) shares former (Some cue) in
    let first = leads_by (begun_of (Some head) shares earlier last) opened (cue_record cue.kind cue) (next_cue head shares earlier last cue cue.load cue.show cue.hide cue.kind cue.runs begun full few) in
    let second = kind_leads head shares former cue.load cue.show cue.hide cue.kind cue.runs begun.kind (λ one. (plain_cue head.version cue are one).kind) in
    let third = runs_read head shares former cue [] cue.runs begun.kind (λ one. (plain_cue head.version cue are one).runs) in
    leads_on (begun_of (Some head) shares earlier last) opened whole (cue_record cue.kind cue ∷ []) (attribute_records cue.kind ++ flat_map run_records cue.runs)
    first (leads_on opened ready whole (attribute_records cue.kind) (flat_map run_records cue.runs) second third)

-- a cue with a run awaits none
not_awaiting : (runs : List Run) → 1 ≤ length runs → no_runs runs ≡ false
not_awaiting [] some = absurd (omega arith)
not_awaiting (run ∷ runs) some = refl

-- the first cue of a version, and the others
version_head : (v : Version) (cue : Cue) (cues : List Cue) → AreOfVersion v (cue ∷ cues) → AreOfVersion v (cue ∷ [])
version_head version.One cue cues are = All-cons IsPlain cue [] (All-head IsPlain cue cues are) (All-nil IsPlain)
version_head version.Two cue cues are = tt

version_tail : (v : Version) (cue : Cue) (cues : List Cue) → AreOfVersion v (cue ∷ cues) → AreOfVersion v cues
version_tail version.One cue cues are = All-tail IsPlain cue cues are
version_tail version.Two cue cues are = tt

-- the list after these records: these cues, the last of which has a run
pub record ReadsCues (head : Head) (shares : List Share) (start : Begun) (records : List Record) (cues : List Cue) : Type 0 where
  pub earlier : List Cue
  pub last : Option Cue
  pub all : earlier ++ option_to_list last ≡ cues
  pub full : awaits_run last ≡ false
  pub leads : LeadsTo start records (begun_of (Some head) shares earlier last)

-- cues are read
pub cues_read : (head : Head) (shares : List Share) (earlier : List Cue) (last : Option Cue) (cues : List Cue) → awaits_run last ≡ false → All IsCueFormed cues → AreOfVersion head.version cues
    → length (earlier ++ option_to_list last) + length cues ≤ 20000
    → ReadsCues head shares (begun_of (Some head) shares earlier last) (flat_map cue_records cues) ((earlier ++ option_to_list last) ++ cues)
cues_read head shares earlier last [] full formed are few =
    record { earlier = earlier; last = last; all = sym (append-nil (earlier ++ option_to_list last)); full = full; leads = leads_nowhere (begun_of (Some head) shares earlier last) }
cues_read head shares earlier last (cue ∷ cues) full formed are few =
    let former = earlier ++ option_to_list last in
    let own = All-head IsCueFormed cue cues formed in
    let begun : IsCueBegun cue = record { load = own.load; show = own.show; hide = own.hide; kind = own.kind } in
    let first = cue_read head shares earlier last cue begun (version_head head.version cue cues are) full (omega arith) in
    let room : length (former ++ cue ∷ []) + length cues ≤ 20000 = rw length-append (omega arith) in
    let more = cues_read head shares former (Some cue) cues (not_awaiting cue.runs own.some) (All-tail IsCueFormed cue cues formed) (version_tail head.version cue cues are) room in
    record {
      earlier = more.earlier;
      last = more.last;
      all = more.all ∙ append_assoc former (cue ∷ []) cues;
      full = more.full;
      leads = leads_on (begun_of (Some head) shares earlier last) (begun_of (Some head) shares former (Some cue)) (begun_of (Some head) shares more.earlier more.last) (cue_records cue) (flat_map cue_records cues) first more.leads;
    }

-- the head and the shares
pub front_read : (head : Head) (shares : List Share) → IsListRate head.rate → 1 ≤ head.frames → head.frames ≤ 1000000 → AreShares head.rate shares
    → LeadsTo nothing (head_record head ∷ map share_record shares) (begun_of (Some head) shares [] None)
front_read head shares rated some frames are =
    leads_on nothing (begun_of (Some head) [] [] None) (begun_of (Some head) shares [] None) (head_record head ∷ []) (map share_record shares)
    (head_read head rated some frames) (shares_read head [] shares are)

-- records that spell a list are read as it
pub list_of-spelled : (rs : List Record) (l : Listing) → SpellsList rs l → spelled_list rs ≡ Ok l
list_of-spelled rs l spelled =
    let formed = spelled.formed in
    let head : Head = record { version = spelled.version; rate = l.rate; frames = l.frames } in
    let front = front_read head l.shares formed.rate formed.some formed.frames formed.shares in
    let cues = cues_read head l.shares [] None l.cues refl formed.cues spelled.allowed (let few = formed.few in omega arith) in
    let whole = leads_on nothing (begun_of (Some head) l.shares [] None) (begun_of (Some head) l.shares cues.earlier cues.last) (head_record head ∷ map share_record l.shares) (flat_map cue_records l.cues) front cues.leads in
    let records : rs ≡ (head_record head ∷ map share_record l.shares) ++ flat_map cue_records l.cues = spelled.are in
    ap spelled_list (records ∙ sym (append-nil ((head_record head ∷ map share_record l.shares) ++ flat_map cue_records l.cues)))
    ∙ whole.read 1 [] ∙ rw (cues.full, cues.all) refl
