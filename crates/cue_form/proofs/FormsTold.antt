-- The tests of a field are passed exactly where it has its form.
use Rattle.std.proofs.Common.{◌≡◌, ◌≢◌, ℕ, ◌+◌, ◌-◌, ◌<◌, ◌≤◌, ◌^◌, ◌==◌, ◌&&◌, not, nat_le, nat_lt, Bool, true, false, List, [], ◌∷◌, length, chars, decimal, IsUtf8, is_some, max, min, All, Option, Some, None, unwrap_or, refl, sym, ap, subst, ◌∙◌, arith, inl, inr, ◌⊎◌, leb-true, le-leb, ltb-true, lt-ltb, eqb-true, eq-eqb}
use Rattle.std.specs.Prelude.{Decides}
use Rattle.std.specs.List.{list_all, list_any}
use Rattle.std.specs.Str.{all_scalars, is_utf8}
use Rattle.std.proofs.lemmas.Bool.{eqb-false}
use Rattle.std.proofs.lemmas.List.Elements.{All-cons, All-head, All-nil, All-tail}
use Rattle.std.proofs.lemmas.Str.{IsUtf8-from_is_utf8, chars-encodes, encodes-chars, is_utf8-from_IsUtf8}
use Rattle.cc_base.specs.Options.{passes}
use Rattle.cc_base.specs.declared.why.Why.{Why}
use Rattle.cc_base.specs.declared.why.Why.TheVariants as why
use Rattle.line21_codes.specs.Channels.{channel_name}
use Rattle.dtvcc_codes.specs.Spellable.{IsFill, IsRgb}
use Rattle.cue_types.specs.Cues.{IsFrameOrNone}
use Rattle.cue_types.specs.Line21Cues.{IsAuthoredChannel}
use Rattle.cue_types.specs.Listing.{IsListRate}
use Rattle.cue_types.specs.Shares.{shares_taken}
use Rattle.cue_types.specs.declared.cue.Kind.{Kind}
use Rattle.cue_types.specs.declared.cue.Kind.TheVariants as kind
use Rattle.cue_types.specs.declared.cue.Pen.{Pen}
use Rattle.cue_types.specs.declared.cue.Run.{Run}
use Rattle.cue_types.specs.declared.head.Version.{Version}
use Rattle.cue_types.specs.declared.head.Version.TheVariants as version
use Rattle.cue_types.specs.declared.list.Share.{Share}
use Rattle.cue_form.specs.FieldForms.{ChannelField, FieldForm, FillField, HasForm, HideField, IsPenOf, LacksCode, NumberField, PenField, RateField, RgbField, ServiceField, TextField, VersionField, row_form}
use Rattle.cue_form.specs.Fields.{channel_field, fill_field, named, number_within, rate_field, rgb_field}
use Rattle.cue_form.specs.Form.{cue_columns, first_row, frame_or_none_field, is_coded, last_row, run_pen_field, suits_row, version_words}
use Rattle.cue_form.specs.RecordJudgements.{Judgement, first_offence, judge}
use Rattle.cue_form.specs.Records.{Field, Record, field}
use Rattle.cue_form.specs.Spelling.{fill_word, hide_word, pen_word, rate_word, rgb_word, version_word}
use Rattle.cue_form.specs.declared.offence.Offence.{Offence}
use Rattle.cue_form.specs.declared.offence.Offence.TheVariants as offence
use Rattle.cue_form.proofs.CodedFacts.{coded_scalars, window_scalars}
use Rattle.cue_form.proofs.Complete.{fill_read, line21_pen_read, rgb_read, window_pen_read}
use Rattle.cue_form.proofs.Passing.{both_of, with_value}
use Rattle.cue_form.proofs.RecordFacts.{coded_paint, coded_pop, coded_roll, coded_window, fill_passed, frame_or_none_passed, line21_pen, rgb_passed}
use Rattle.cue_form.proofs.RecordNumberFacts.{number_good, number_within-decimal, within_passed}
use Rattle.cue_form.proofs.TextFacts.{all_pass, some_character}
use Rattle.cue_form.proofs.WordFacts.{channel_passed, rate_passed, version_passed, window_pen_passed}
use Rattle.cue_form.proofs.WordsRead.{channel_field-channel_name, frame_or_none_field-hide_word, rate_field-rate_word}

-- a field that is read, where reading gives back what its words spell
parsed : {A : Type 0} (parse : Field → Option A) (Q : A → Type 0) (word : A → Field)
    → ((text : Field) (value : A) → parse text ≡ Some value → Q value × (text ≡ word value))
    → ((value : A) → Q value → parse (word value) ≡ Some value) → (text : Field)
    → Decides (is_some (parse text)) ((value : A) × Q value × (text ≡ word value))
parsed parse Q word passed read text = (
  λ good. with_value _ (parse text) (λ none. let q = rw none at good in cc)
      (λ value is. let both = passed text value is in (value, both.0, both.1)),
  λ has. subst (λ (t : Field). is_some (parse t) ≡ true) (sym has.2) (rw (read has.0 has.1) refl),
)

-- the words of versions
version_read : (v : Version) → named version_words (version_word v) ≡ Some v
version_read version.One = refl
version_read version.Two = refl

pub version_told : (text : Field) → Decides (is_some (named version_words text)) (HasForm VersionField text)
version_told text = (
  λ good. with_value _ (named version_words text) (λ none. let q = rw none at good in cc) (λ v is. (v, version_passed text v is)),
  λ has. subst (λ (t : Field). is_some (named version_words t) ≡ true) (sym has.1) (rw (version_read has.0) refl),
)

pub rate_told : (text : Field) → Decides (is_some (rate_field text)) (HasForm RateField text)
rate_told text = parsed rate_field IsListRate rate_word rate_passed rate_field-rate_word text

pub channel_told : (text : Field) → Decides (is_some (channel_field text)) (HasForm ChannelField text)
channel_told text = parsed channel_field IsAuthoredChannel channel_name channel_passed channel_field-channel_name text

pub hide_told : (text : Field) → Decides (is_some (frame_or_none_field text)) (HasForm HideField text)
hide_told text =
    parsed frame_or_none_field IsFrameOrNone hide_word
    (λ t hide is. let both = frame_or_none_passed t hide is in (both.1, both.0)) frame_or_none_field-hide_word text

pub fill_told : (text : Field) → Decides (is_some (fill_field text)) (HasForm FillField text)
fill_told text = parsed fill_field IsFill fill_word (λ t fill is. let both = fill_passed t fill is in (both.1, both.0)) fill_read text

pub rgb_told : (text : Field) → Decides (is_some (rgb_field text)) (HasForm RgbField text)
rgb_told text = parsed rgb_field IsRgb rgb_word (λ t rgb is. let both = rgb_passed t rgb is in (both.1, both.0)) rgb_read text

pen_passed_of : (k : Kind) (text : Field) (p : Pen) → run_pen_field k text ≡ Some p → IsPenOf k p × (text ≡ pen_word p)
pen_passed_of (kind.Pop channel) text p is = line21_pen text p is
pen_passed_of (kind.Paint channel) text p is = line21_pen text p is
pen_passed_of (kind.Roll channel rows) text p is = line21_pen text p is
pen_passed_of (kind.Win window) text p is = window_pen_passed text p is

pen_read_of : (k : Kind) (p : Pen) → IsPenOf k p → run_pen_field k (pen_word p) ≡ Some p
pen_read_of (kind.Pop channel) p is = line21_pen_read p is
pen_read_of (kind.Paint channel) p is = line21_pen_read p is
pen_read_of (kind.Roll channel rows) p is = line21_pen_read p is
pen_read_of (kind.Win window) p is = window_pen_read p is

pub pen_told : (k : Kind) (text : Field) → Decides (is_some (run_pen_field k text)) (HasForm (PenField k) text)
pen_told k text = parsed (run_pen_field k) (IsPenOf k) pen_word (pen_passed_of k) (pen_read_of k) text

-- numbers
pub number_told : (low high : ℕ) (text : Field) → high < 10 ^ 10
    → Decides (is_some (number_within low high text)) (HasForm (NumberField low high) text)
number_told low high text small = (
  λ good. let is = number_good low high text good in (unwrap_or (number_within low high text) 0, is.1, is.2, is.0),
  λ has.
      let most : has.0 ≤ high = has.2 in
      subst (λ (t : Field). is_some (number_within low high t) ≡ true) (sym has.3)
      (rw (number_within-decimal low high has.0 has.1 has.2 (omega arith)) refl),
)

-- a number that passes another test too
tested_told : (low high : ℕ) (test : ℕ → Bool) (text : Field) (T : ℕ → Type 0) → high < 10 ^ 10 → ((n : ℕ) → Decides (test n) (T n))
    → Decides (is_some (number_within low high text) && passes test (number_within low high text))
    ((n : ℕ) × (low ≤ n) × (n ≤ high) × T n × (text ≡ decimal n))
tested_told low high test text T small decides = (
  λ good.
      let both = both_of (is_some (number_within low high text)) (passes test (number_within low high text)) good in
      with_value _ (number_within low high text) (λ none. let q = rw none at both.0 in cc) (λ n is.
      let read = within_passed low high text n is in
      let passed : test n ≡ true = rw is at both.1 in
      (n, read.1, read.2, (decides n).0 passed, read.0)),
  λ has.
      let most : has.0 ≤ high = has.2 in
      subst (λ (t : Field). (is_some (number_within low high t) && passes test (number_within low high t)) ≡ true) (sym has.4)
      (rw (number_within-decimal low high has.0 has.1 has.2 (omega arith), (decides has.0).1 has.3) refl),
)

-- the sentence in other words
decides_like : {P Q : Type 0} (b : Bool) → Decides b P → (P → Q) → (Q → P) → Decides b Q
decides_like b d there back = (λ is. there (d.0 is), λ q. d.1 (back q))

-- a service without a share
none_shared : (shares : List Share) (n : ℕ) → Decides (not (list_any (λ share. share.service == n) shares)) (All (λ (share : Share). share.service ≢ n) shares)
none_shared [] n = (λ is. All-nil (λ (share : Share). share.service ≢ n), λ all. refl)
none_shared (share ∷ shares) n = by_test (none_shared shares n) (share.service == n) refl
  where
    by_test : Decides (not (list_any (λ (s : Share). s.service == n) shares)) (All (λ (s : Share). s.service ≢ n) shares)
        → (b : Bool) → (share.service == n) ≡ b
        → Decides (not (list_any (λ (s : Share). s.service == n) (share ∷ shares))) (All (λ (s : Share). s.service ≢ n) (share ∷ shares))
    by_test others true is = (
      λ good. let q = rw is at good in cc,
      λ all. absurd (All-head (λ (s : Share). s.service ≢ n) share shares all (eqb-true share.service n is)),
    )
    by_test others false is = (
      λ good.
          let rest : not (list_any (λ (s : Share). s.service == n) shares) ≡ true = rw is at good in
          All-cons (λ (s : Share). s.service ≢ n) share shares (eqb-false share.service n is) (others.0 rest),
      λ all. rw is (others.1 (All-tail (λ (s : Share). s.service ≢ n) share shares all)),
    )

pub service_told : (shares : List Share) (text : Field)
    → Decides (is_some (number_within 1 6 text) && passes (λ service. not (list_any (λ share. share.service == service) shares)) (number_within 1 6 text))
    (HasForm (ServiceField shares) text)
service_told shares text =
    tested_told 1 6 (λ service. not (list_any (λ share. share.service == service) shares)) text
    (λ n. All (λ (share : Share). share.service ≢ n) shares) (omega arith) (none_shared shares)

-- the bytes of a share that has room
pub bytes_told : (shares : List Share) (room : ℕ) (text : Field)
    → Decides (is_some (number_within 8 31 text) && passes (λ bytes. nat_le (shares_taken shares + (bytes + 1)) room) (number_within 8 31 text))
    (HasForm (NumberField 8 (min 31 (room - (shares_taken shares + 1)))) text)
bytes_told shares room text =
    decides_like _
    (tested_told 8 31 (λ bytes. nat_le (shares_taken shares + (bytes + 1)) room) text (λ n. shares_taken shares + (n + 1) ≤ room) (omega arith)
    (λ n. (λ is. leb-true (shares_taken shares + (n + 1)) room is, λ le. le-leb (shares_taken shares + (n + 1)) room le)))
    (λ has. let fits : shares_taken shares + (has.0 + 1) ≤ room = has.3 in let low = has.1 in let high = has.2 in (has.0, has.1, omega arith, has.4))
    (λ has. let low : 8 ≤ has.0 = has.1 in let high : has.0 ≤ min 31 (room - (shares_taken shares + 1)) = has.2 in (has.0, has.1, omega arith, omega arith, has.3))

-- the row of a run
line21_row : (text : Field) → Decides (is_some (number_within 1 15 text) && passes (λ row. true) (number_within 1 15 text)) (HasForm (NumberField 1 15) text)
line21_row text =
    decides_like _ (tested_told 1 15 (λ row. true) text (λ n. Unit {0}) (omega arith) (λ n. (λ is. tt, λ is. refl)))
    (λ has. (has.0, has.1, has.2, has.4)) (λ has. (has.0, has.1, has.2, tt, has.3))

pub row_told : (k : Kind) (runs : List Run) (text : Field) → last_row k < 10 ^ 10
    → Decides (is_some (number_within (first_row k) (last_row k) text) && passes (suits_row k runs) (number_within (first_row k) (last_row k) text))
    (HasForm (row_form k runs) text)
row_told (kind.Pop channel) runs text small = line21_row text
row_told (kind.Paint channel) runs text small = line21_row text
row_told (kind.Roll channel rows) [] text small =
    decides_like _
    (tested_told 1 15 (suits_row (kind.Roll channel rows) []) text (λ n. rows ≤ n) (omega arith)
    (λ n. (λ is. leb-true rows n (both_of (nat_le rows n) true is).0, λ le. rw (le-leb rows n le) refl)))
    (λ has. let low : 1 ≤ has.0 = has.1 in let room : rows ≤ has.0 = has.3 in (has.0, omega arith, has.2, has.4))
    (λ has. let low : max 1 rows ≤ has.0 = has.1 in (has.0, omega arith, has.2, omega arith, has.3))
row_told (kind.Roll channel rows) (run ∷ runs) text small =
    decides_like _
    (tested_told 1 15 (suits_row (kind.Roll channel rows) (run ∷ runs)) text (λ n. (rows ≤ n) × (n ≡ run.row)) (omega arith)
    (λ n. (
      λ is. let both = both_of (nat_le rows n) (n == run.row) is in (leb-true rows n both.0, eqb-true n run.row both.1),
      λ both. rw (le-leb rows n both.0, eq-eqb n run.row both.1) refl,
    )))
    (λ has. let low : 1 ≤ has.0 = has.1 in let high : has.0 ≤ 15 = has.2 in let room : rows ≤ has.0 = has.3.0 in let same : has.0 ≡ run.row = has.3.1 in
    (has.0, omega arith, omega arith, has.4))
    (λ has. let low : max (max 1 rows) run.row ≤ has.0 = has.1 in let high : has.0 ≤ min 15 run.row = has.2 in
    (has.0, omega arith, omega arith, (omega arith, omega arith), has.3))
row_told (kind.Win window) runs text small =
    decides_like _ (tested_told 0 (window.rows - 1) (λ row. true) text (λ n. Unit {0}) small (λ n. (λ is. tt, λ is. refl)))
    (λ has. (has.0, has.1, has.2, has.4)) (λ has. (has.0, has.1, has.2, tt, has.3))

-- why a field offends that hasn't its form
abbrev pub IsReason : FieldForm → Field → Why → Type 0
IsReason form text reason = ((reason ≡ why.NoCode) × LacksCode form text) ⊎ ((reason ≡ why.Field) × (LacksCode form text → ⊥))

-- what the judgements of one field tell of it
pub record IsTold (group : List Judgement) (form : FieldForm) (place : ℕ) (text : Field) : Type 0 where
  pub good : first_offence group ≡ None → HasForm form text
  pub bad : (o : Offence) → first_offence group ≡ Some o
      → (HasForm form text → ⊥) × (reason : Why) × (o ≡ offence.At (place + 1) reason) × IsReason form text reason

pub one_told : (b : Bool) (form : FieldForm) (place : ℕ) (text : Field) → Decides b (HasForm form text) → (LacksCode form text → ⊥)
    → IsTold (judge b (place + 1) why.Field ∷ []) form place text
one_told true form place text d plain = record { good = λ none. d.0 refl; bad = λ o is. cc }
one_told false form place text d plain = record {
  good = λ none. cc;
  bad = λ o is.
      let same : offence.At (place + 1) why.Field ≡ o = cc in
      (λ has. let never : false ≡ true = d.1 has in cc, why.Field, sym same, inr (refl, plain));
}

pub two_told : (b c : Bool) (form : FieldForm) (place : ℕ) (text : Field) → Decides (b && c) (HasForm form text) → (LacksCode form text → ⊥)
    → IsTold (judge b (place + 1) why.Field ∷ judge c (place + 1) why.Field ∷ []) form place text
two_told true c form place text d plain =
    let told = one_told c form place text d plain in record { good = told.good; bad = told.bad }
two_told false c form place text d plain = record {
  good = λ none. cc;
  bad = λ o is.
      let same : offence.At (place + 1) why.Field ≡ o = cc in
      (λ has. let never : false ≡ true = d.1 has in cc, why.Field, sym same, inr (refl, plain));
}

-- the characters of a coded text are scalars
coded_are_scalars : (k : Kind) (text : List ℕ) → All (λ ch. is_coded k ch ≡ true) text → all_scalars text ≡ true
coded_are_scalars (kind.Pop channel) text coded = coded_scalars text (λ i d within. coded_pop channel _ (coded i d within))
coded_are_scalars (kind.Paint channel) text coded = coded_scalars text (λ i d within. coded_paint channel _ (coded i d within))
coded_are_scalars (kind.Roll channel rows) text coded = coded_scalars text (λ i d within. coded_roll channel rows _ (coded i d within))
coded_are_scalars (kind.Win window) text coded = window_scalars text (λ i d within. coded_window window _ (coded i d within))

-- each passes a test, told by all
tests_pass : (test : ℕ → Bool) (xs : List ℕ) → All (λ x. test x ≡ true) xs → list_all test xs ≡ true
tests_pass test [] all = refl
tests_pass test (x ∷ xs) all =
    rw (All-head (λ x. test x ≡ true) x xs all) (tests_pass test xs (All-tail (λ x. test x ≡ true) x xs all))

-- bytes of characters
some_bytes : (bytes : Field) → 1 ≤ length (chars bytes) → nat_lt 0 (length bytes) ≡ true
some_bytes [] some = absurd (let none : chars [] ≡ [] = chars-encodes [] refl in let long = ap length none in omega arith)
some_bytes (byte ∷ bytes) some = lt-ltb 0 (length (byte ∷ bytes)) (omega arith)

-- the judgements of a text: its bytes, its characters, its length
abbrev pub text_group : Kind → Record → List Judgement
text_group k r =
    judge (is_utf8 (field r 4) && nat_lt 0 (length (field r 4))) 5 why.Field
    ∷ judge (list_all (is_coded k) (chars (field r 4))) 5 why.NoCode
    ∷ judge (passes (λ col. nat_le (col + length (chars (field r 4))) (cue_columns k)) (number_within 0 (cue_columns k - 1) (field r 2))) 5 why.Field
    ∷ []

module _ (k : Kind) (r : Record) (few : cue_columns k < 10 ^ 10) where
  -- what a text in form has
  formed_text : HasForm (TextField k (field r 2)) (field r 4)
      → ((is_utf8 (field r 4) && nat_lt 0 (length (field r 4))) ≡ true) × (list_all (is_coded k) (chars (field r 4)) ≡ true)
      × (passes (λ col. nat_le (col + length (chars (field r 4))) (cue_columns k)) (number_within 0 (cue_columns k - 1) (field r 2)) ≡ true)
  formed_text has =
      let (col, text, at, written, long, coded, fits) = has in
      let scalars = coded_are_scalars k text coded in
      let read : chars (field r 4) ≡ text = ap chars written ∙ chars-encodes text scalars in
      let utf8 : is_utf8 (field r 4) ≡ true = is_utf8-from_IsUtf8 (field r 4) (text, (scalars, sym written)) in
      let some : 1 ≤ length (chars (field r 4)) = rw read long in
      let found : number_within 0 (cue_columns k - 1) (field r 2) ≡ Some col =
      subst (λ (t : Field). number_within 0 (cue_columns k - 1) t ≡ Some col) (sym at)
      (number_within-decimal 0 (cue_columns k - 1) col (omega arith) (omega arith) (omega arith)) in (
        rw (utf8, some_bytes (field r 4) some) refl,
        rw read (tests_pass (is_coded k) text coded),
        rw (found, read) (le-leb (col + length text) (cue_columns k) fits),
      )

  -- bytes that are judged good are of characters
  some_chars : (is_utf8 (field r 4) && nat_lt 0 (length (field r 4))) ≡ true → IsUtf8 (field r 4) × (1 ≤ length (chars (field r 4)))
  some_chars good =
      let both = both_of (is_utf8 (field r 4)) (nat_lt 0 (length (field r 4))) good in
      let utf8 = IsUtf8-from_is_utf8 (field r 4) both.0 in
      (utf8, some_character (field r 4) (chars (field r 4)) (encodes-chars (field r 4) utf8) (ltb-true 0 (length (field r 4)) both.1))

  text_formed : (is_utf8 (field r 4) && nat_lt 0 (length (field r 4))) ≡ true → list_all (is_coded k) (chars (field r 4)) ≡ true
      → passes (λ col. nat_le (col + length (chars (field r 4))) (cue_columns k)) (number_within 0 (cue_columns k - 1) (field r 2)) ≡ true
      → HasForm (TextField k (field r 2)) (field r 4)
  text_formed bytes coded fits =
      let characters = some_chars bytes in
      with_value _ (number_within 0 (cue_columns k - 1) (field r 2)) (λ none. let q = rw none at fits in cc) (λ col is.
      let room : nat_le (col + length (chars (field r 4))) (cue_columns k) ≡ true = rw is at fits in (
        col,
        chars (field r 4),
        (within_passed 0 (cue_columns k - 1) (field r 2) col is).0,
        sym (encodes-chars (field r 4) characters.0),
        characters.1,
        all_pass (is_coded k) (chars (field r 4)) coded,
        leb-true (col + length (chars (field r 4))) (cue_columns k) room,
      ))

  pub text_told : IsTold (text_group k r) (TextField k (field r 2)) 4 (field r 4)
  text_told =
      by_tests (is_utf8 (field r 4) && nat_lt 0 (length (field r 4))) (list_all (is_coded k) (chars (field r 4)))
      (passes (λ col. nat_le (col + length (chars (field r 4))) (cue_columns k)) (number_within 0 (cue_columns k - 1) (field r 2))) refl refl refl
    where
      by_tests : (a b c : Bool) → (is_utf8 (field r 4) && nat_lt 0 (length (field r 4))) ≡ a → list_all (is_coded k) (chars (field r 4)) ≡ b
          → passes (λ col. nat_le (col + length (chars (field r 4))) (cue_columns k)) (number_within 0 (cue_columns k - 1) (field r 2)) ≡ c
          → IsTold (judge a 5 why.Field ∷ judge b 5 why.NoCode ∷ judge c 5 why.Field ∷ []) (TextField k (field r 2)) 4 (field r 4)
      by_tests true true true bytes coded fits = record { good = λ none. text_formed bytes coded fits; bad = λ o is. cc }
      by_tests true true false bytes coded fits = record {
        good = λ none. cc;
        bad = λ o is.
            let same : offence.At 5 why.Field ≡ o = cc in (
              λ has. let never = (formed_text has).2 in cc,
              why.Field,
              sym same,
              inr (refl, λ lacks. lacks.2 (all_pass (is_coded k) (chars (field r 4)) coded)),
            );
      }
      by_tests true false c bytes coded fits = record {
        good = λ none. cc;
        bad = λ o is.
            let same : offence.At 5 why.NoCode ≡ o = cc in
            let characters = some_chars bytes in (
              λ has. let never = (formed_text has).1 in cc,
              why.NoCode,
              sym same,
              inl (refl, (characters.0, characters.1, λ all. let never = tests_pass (is_coded k) (chars (field r 4)) all in cc)),
            );
      }
      by_tests false b c bytes coded fits = record {
        good = λ none. cc;
        bad = λ o is.
            let same : offence.At 5 why.Field ≡ o = cc in (
              λ has. let never = (formed_text has).0 in cc,
              why.Field,
              sym same,
              inr (
                refl,
                λ lacks.
                    let utf8 = is_utf8-from_IsUtf8 (field r 4) lacks.0 in
                    let some = some_bytes (field r 4) lacks.1 in
                    let never : (is_utf8 (field r 4) && nat_lt 0 (length (field r 4))) ≡ true = rw (utf8, some) refl in
                    cc,
              ),
            );
      }
