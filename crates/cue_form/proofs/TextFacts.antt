-- What is due of a text, from what is known of its bytes and of its characters.
use Rattle.std.proofs.Common.{◌≡◌, ℕ, ◌+◌, ◌<◌, ◌≤◌, Bool, true, false, ◌&&◌, nat_lt, nat_le, ◌==◌, List, [], ◌∷◌, length, chars, encode_utf8_all, IsUtf8, All, Ok, Err, refl, sym, arith, inl, inr, lt-ltb, le-leb, leb-true, ltb-true}
use Rattle.std.proofs.lemmas.Bool.{cases_Bool}
use Rattle.std.proofs.lemmas.List.Elements.{All-cons, All-nil}
use Rattle.std.proofs.lemmas.Str.{IsUtf8-from_is_utf8, encodes-chars, is_utf8-from_IsUtf8}
use Rattle.std.specs.List.{list_all}
use Rattle.std.specs.Str.{is_utf8}
use Rattle.cc_base.specs.declared.why.Why.TheVariants as why
use Rattle.cue_form.proofs.Passing.{both_of}
use Rattle.cue_form.specs.Form.{cue_columns, is_coded}
use Rattle.cue_form.specs.Records.{Field}
use Rattle.cue_form.specs.Texts.{run_text_of}
use Rattle.cue_types.specs.declared.cue.Kind.{Kind}
use Rattle.cue_form.specs.declared.offence.Offence.TheVariants as offence

not_utf8 : (text : Field) → ¬ (IsUtf8 text) → is_utf8 text ≡ false
not_utf8 text not = elim (cases_Bool (is_utf8 text)) [ inl e ↦ absurd (not (IsUtf8-from_is_utf8 text e)) | inr e ↦ e ]

-- bytes that aren't UTF-8
pub text_not_utf8 : (k : Kind) (col : ℕ) (text : Field) → ¬ (IsUtf8 text) → run_text_of k col text ≡ Err (offence.At 5 why.Field)
text_not_utf8 k col text not = rw (not_utf8 text not) refl

-- there is a byte
some_byte : (text : Field) → (length text == 0) ≡ false → nat_lt 0 (length text) ≡ true
some_byte [] e = cc
some_byte (c ∷ cs) e = lt-ltb 0 (length (c ∷ cs)) (omega arith)

-- a character without a code
pub text_not_coded : (k : Kind) (col : ℕ) (text : Field) → IsUtf8 text → (length text == 0) ≡ false → list_all (is_coded k) (chars text) ≡ false
    → run_text_of k col text ≡ Err (offence.At 5 why.NoCode)
text_not_coded k col text utf8 some coded = rw (is_utf8-from_IsUtf8 text utf8, some_byte text some, coded) refl

-- a good text
pub text_good : (k : Kind) (col : ℕ) (text : Field) → IsUtf8 text → (length text == 0) ≡ false → list_all (is_coded k) (chars text) ≡ true
    → col + length (chars text) ≤ cue_columns k → run_text_of k col text ≡ Ok (chars text)
text_good k col text utf8 some coded fits =
    rw (is_utf8-from_IsUtf8 text utf8, some_byte text some, coded, le-leb (col + length (chars text)) (cue_columns k) fits) refl

-- each passes a test
pub all_pass : {X : Type 0} (test : X → Bool) (xs : List X) → list_all test xs ≡ true → All (λ x. test x ≡ true) xs
all_pass test [] e = All-nil (λ x. test x ≡ true)
all_pass test (x ∷ xs) e = let (first, rest) = both_of (test x) (list_all test xs) e in All-cons (λ x. test x ≡ true) x xs first (all_pass test xs rest)

-- what a text has
pub record TextPassed (k : Kind) (col : ℕ) (bytes : Field) (text : List ℕ) : Type 0 where
  pub some : 1 ≤ length text
  pub fits : col + length text ≤ cue_columns k
  pub coded : All (λ ch. is_coded k ch ≡ true) text
  pub spelled : bytes ≡ encode_utf8_all text

-- bytes are no text without a character
pub some_character : (bytes : Field) (text : List ℕ) → encode_utf8_all text ≡ bytes → 0 < length bytes → 1 ≤ length text
some_character bytes [] e some = absurd (let none : length bytes ≡ 0 = rw (← e) refl in omega arith)
some_character bytes (ch ∷ chs) e some = omega arith

pub text_passed : (k : Kind) (col : ℕ) (bytes : Field) → (is_utf8 bytes && nat_lt 0 (length bytes)) ≡ true → list_all (is_coded k) (chars bytes) ≡ true
    → nat_le (col + length (chars bytes)) (cue_columns k) ≡ true → TextPassed k col bytes (chars bytes)
text_passed k col bytes written coded fits =
    let (utf8, some) = both_of (is_utf8 bytes) (nat_lt 0 (length bytes)) written in
    let spelled = encodes-chars bytes (IsUtf8-from_is_utf8 bytes utf8) in
    record {
      some = some_character bytes (chars bytes) spelled (ltb-true 0 (length bytes) some);
      fits = leb-true (col + length (chars bytes)) (cue_columns k) fits;
      coded = all_pass (is_coded k) (chars bytes) coded;
      spelled = sym spelled;
    }
