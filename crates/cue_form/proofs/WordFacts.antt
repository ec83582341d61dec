-- Words in fields: a field is read as a rate, a channel or a pen exactly where it is its word.
use Rattle.std.proofs.Common.{◌≡◌, ◌-◌, Bool, true, false, ◌++◌, length, take, drop, List, [], ◌∷◌, Some, subst, codes, bytes_eq, refl, sym, ◌∙◌, inl, inr}
use Rattle.std.proofs.lemmas.Bool.{cases_Bool}
use Rattle.std.proofs.lemmas.List.{append-nil, take-append-drop}
use Rattle.std.proofs.lemmas.Slice.Eq.{bytes_eq-Decides}
use Rattle.cc_base.specs.declared.rate.Rate.{Rate}
use Rattle.line21_codes.specs.declared.channels.Chan.{Chan}
use Rattle.line21_codes.specs.declared.styles.Colour.{Colour}
use Rattle.line21_codes.specs.declared.styles.Colour.TheVariants as colour
use Rattle.line21_codes.specs.declared.styles.Style.{Style}
use Rattle.line21_codes.specs.PenWords.{colour_word, italic_mark}
use Rattle.line21_codes.specs.Channels.{channel_name}
use Rattle.cue_form.specs.Fields.{channel_field, channel_words, line21_words, named, pen_field, plain_pen_field, plain_words, rate_field, rate_words}
use Rattle.cue_types.specs.Line21Cues.{IsAuthoredChannel, IsLine21Pen}
use Rattle.cue_types.specs.Listing.{IsListRate}
use Rattle.cue_form.specs.Records.{Field}
use Rattle.cue_form.specs.Spelling.{pen_word, rate_word, version_word}
pub use Rattle.cue_form.specs.FieldForms.{kind_word}
use Rattle.cue_form.specs.Form.{kind_words, record_kind_of, version_words}
use Rattle.cue_types.specs.Windows.{IsWindowPen}
use Rattle.cue_types.specs.declared.cue.Pen.{Pen}
use Rattle.cue_types.specs.declared.cue.Pen.TheVariants as pen
use Rattle.cue_types.specs.declared.head.Version.{Version}
use Rattle.cue_form.specs.declared.record_kind.RecordKind.{RecordKind}
use Rattle.cue_form.proofs.Passing.{with_value}

-- a field that passed the test for a word is the word
pub is_word : (text word : Field) → bytes_eq text word ≡ true → text ≡ word
is_word text word = (bytes_eq-Decides text word).0

-- what holds of each entry of a table of words
abbrev pub OfEntries : {A : Type 0} → (Field → A → Type 0) → List (Field × A) → Type 0
OfEntries P [] = Unit {0}
OfEntries P (entry ∷ table) = P entry.0 entry.1 × OfEntries P table

-- holds of what a word names
pub of_named : {A : Type 0} (P : Field → A → Type 0) (table : List (Field × A)) → OfEntries P table
    → (text : Field) (value : A) → named table text ≡ Some value → P text value
of_named P [] each text value e = cc
of_named P (entry ∷ table) each text value e = elim (cases_Bool (bytes_eq text entry.0)) [
  | inl is ↦
      let q = rw is at e in
      let same : entry.1 ≡ value = cc in
      subst (P text) same (subst (λ word. P word entry.1) (sym (is_word text entry.0 is)) each.0)
  | inr other ↦ let e1 = rw other at e in of_named P table each.1 text value e1
]

-- a rate
pub rate_passed : (text : Field) (r : Rate) → rate_field text ≡ Some r → IsListRate r × (text ≡ rate_word r)
rate_passed text r e =
    of_named (λ text r. IsListRate r × (text ≡ rate_word r)) rate_words
    ((tt, refl), ((tt, refl), ((tt, refl), ((tt, refl), tt)))) text r e

-- a version
pub version_passed : (text : Field) (v : Version) → named version_words text ≡ Some v → text ≡ version_word v
version_passed text v e = of_named (λ text v. text ≡ version_word v) version_words (refl, (refl, tt)) text v e

-- a channel
pub channel_passed : (text : Field) (c : Chan) → channel_field text ≡ Some c → IsAuthoredChannel c × (text ≡ channel_name c)
channel_passed text c e =
    of_named (λ text c. IsAuthoredChannel c × (text ≡ channel_name c)) channel_words ((tt, refl), ((tt, refl), tt)) text c e

-- the pen of a window's run
pub window_pen_passed : (text : Field) (p : Pen) → named plain_words text ≡ Some p → IsWindowPen p × (text ≡ pen_word p)
window_pen_passed text p e =
    of_named (λ text p. IsWindowPen p × (text ≡ pen_word p)) plain_words
    ((tt, refl), ((tt, refl), ((tt, refl), ((tt, refl), tt)))) text p e

-- the word of a plain pen
abbrev plain_word : Colour → Bool → Field
plain_word colour italic = colour_word colour ++ italic_mark italic

-- a word spells a pen's colour and italics, of which white alone has these
abbrev IsPlainPen : Field → Colour × Bool → Type 0
IsPlainPen text plain = (text ≡ plain_word plain.0 plain.1) × (plain.1 ≡ true → plain.0 ≡ colour.White)

plain_pen_named : (text : Field) (plain : Colour × Bool) → named line21_words text ≡ Some plain → IsPlainPen text plain
plain_pen_named =
    of_named IsPlainPen line21_words
    ((refl, λ i. refl), ((refl, λ i. cc), ((refl, λ i. cc), ((refl, λ i. cc), ((refl, λ i. cc), ((refl, λ i. cc), ((refl, λ i. cc), ((refl, λ i. refl), tt))))))))

-- the style of a word, with the underlining that was told
record IsPlainStyle (underline : Bool) (text : Field) (style : Style) : Type 0 where
  word : text ≡ plain_word style.colour style.italic
  underlined : style.underline ≡ underline
  white : style.italic ≡ true → style.colour ≡ colour.White

-- a pen without its underlining
plain_pen_passed : (u : Bool) (text : Field) (style : Style) → plain_pen_field u text ≡ Some style → IsPlainStyle u text style
plain_pen_passed u text style e =
    with_value _ (named line21_words text) (λ none. let q = rw none at e in cc) (λ plain is.
    let passed = plain_pen_named text plain is in
    let q = rw is at e in
    let same : record { colour = plain.0; italic = plain.1; underline = u } ≡ style = cc in
    rw (← same) (record { word = passed.0; underlined = refl; white = passed.1 }))

-- a pen
pub pen_passed : (text : Field) (style : Style) → pen_field text ≡ Some style → IsLine21Pen (pen.Line21 style) × (text ≡ pen_word (pen.Line21 style))
pen_passed text style e = elim (cases_Bool (bytes_eq (drop (length text - 2) text) (codes "-u"))) [
  | inl is ↦
      let plain = plain_pen_passed true (take (length text - 2) text) style (rw is at e) in
      let mark = is_word (drop (length text - 2) text) _ is in
      (plain.white, sym (take-append-drop (length text - 2) text) ∙ rw (plain.underlined, plain.word, mark) refl)
  | inr other ↦
      let plain = plain_pen_passed false text style (rw other at e) in
      (plain.white, plain.word ∙ rw plain.underlined (sym (append-nil (plain_word style.colour style.italic))))
]

-- a kind of record
pub kind_passed : (text : Field) (k : RecordKind) → record_kind_of text ≡ Some k → text ≡ kind_word k
kind_passed text k e =
    of_named (λ text k. text ≡ kind_word k) kind_words
    (refl, (refl, (refl, (refl, (refl, (refl, (refl, (refl, (refl, tt))))))))) text k e
