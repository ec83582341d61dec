-- Numbers in fields: a field is read as a number exactly where it is the number's decimal digits, 10 at most.
use Rattle.std.proofs.Common.{◌≡◌, ℕ, zero, suc, ◌^◌, ◌<◌, ◌≤◌, Bool, true, false, ◌&&◌, ◌||◌, ◌==◌, nat_le, [], ◌∷◌, length, get_or, Some, decimal, unwrap_or, refl, sym, ap, ◌∙◌, arith, inl, inr, leb-true, le-leb, eqb-true, eq-eqb, ne_eqb}
use Rattle.std.proofs.lemmas.Bool.{cases_Bool}
use Rattle.std.proofs.lemmas.Fmt.{decimal-digits_value, decimal_digit, decimal_nonempty, digits_decimal, digits_value-decimal, first_decimal, length-decimal-le}
use Rattle.std.proofs.lemmas.Str.Parse.{FoldsDigits, IsDigitsTest, IsNumeralModel, digits_value_short, numerals_by_fold}
use Rattle.std.specs.Char.{is_ascii_digit}
use Rattle.std.specs.List.{list_all}
use Rattle.std.specs.Prelude.{is_some}
use Rattle.cue_form.proofs.Passing.{both_of, either_of, not_of, passed, some_of, with_value}
use Rattle.cue_form.specs.Numbers.{has_number_length, number_field, number_within, value_after}
use Rattle.cue_form.specs.Records.{Field}

-- all digits
abbrev Digits : Field → Type 0
Digits text = list_all is_ascii_digit text ≡ true

tells : IsDigitsTest Digits
tells = record {
  empty = refl;
  parts = λ c cs e. let k = both_of (is_ascii_digit c) (list_all is_ascii_digit cs) e in let m = both_of (nat_le 48 c) (nat_le c 57) k.0 in ((leb-true 48 c m.0, leb-true c 57 m.1), k.1);
  more = λ c cs k e. rw (le-leb 48 c k.0, le-leb c 57 k.1, e) refl;
}

folds : FoldsDigits value_after
folds = record { empty = λ n. refl; more = λ n c cs k. refl }

own : IsNumeralModel Digits (value_after 0)
own = numerals_by_fold Digits tells value_after folds

-- a length of 1 to 10, and a first 0 alone
length_passed : (text : Field) → has_number_length text ≡ true → (1 ≤ length text) × (length text ≤ 10) × (get_or text 0 0 ≡ 48 → length text ≡ 1)
length_passed text e =
    let (ends, first) = both_of (nat_le 1 (length text) && nat_le (length text) 10) _ e in
    let (low, high) = both_of (nat_le 1 (length text)) (nat_le (length text) 10) ends in (
      leb-true 1 (length text) low,
      leb-true (length text) 10 high,
      λ leading. elim (either_of (length text == 1) _ first) [
        | inl alone ↦ eqb-true (length text) 1 alone
        | inr other ↦ absurd (let q = not_of (get_or text 0 0 == 48) other in let p = eq-eqb (get_or text 0 0) 48 leading in cc)
      ],
    )

-- a field that was read is the number in decimal
pub number_passed : (text : Field) (n : ℕ) → number_field text ≡ Some n → (text ≡ decimal n) × (n < 10 ^ 10)
number_passed text n e =
    let both = passed (has_number_length text && list_all is_ascii_digit text) (λ failed. let q = rw failed at e in cc) in
    let (sized, digits) = both_of (has_number_length text) (list_all is_ascii_digit text) both in
    let (low, high, alone) = length_passed text sized in
    let q = rw both at e in
    let value : value_after 0 text ≡ n = cc in
    let small : value_after 0 text < 10 ^ 10 = digits_value_short own text 10 digits high in
    let fits : value_after 0 text < 2 ^ 64 = omega arith in
    let same = decimal-digits_value own text digits (omega arith) alone fits in
    (sym same ∙ ap decimal value, rw value at small)

-- a number in decimal is read
pub number_field-decimal : (n : ℕ) → n < 10 ^ 10 → number_field (decimal n) ≡ Some n
number_field-decimal n small =
    let fits : n < 2 ^ 64 = omega arith in
    let digits : list_all is_ascii_digit (decimal n) ≡ true = digits_decimal own n fits in
    let value : value_after 0 (decimal n) ≡ n = digits_value-decimal own n fits in
    let some = decimal_nonempty n fits in
    let few = length-decimal-le 10 n (omega arith) small fits in
    let sized : has_number_length (decimal n) ≡ true = elim (cases_Bool (n == 0)) [
      | inl none ↦ let e : decimal n ≡ 48 ∷ [] = ap decimal (eqb-true n 0 none) ∙ decimal_digit 0 (omega arith) in rw e refl
      | inr more ↦
          let above : 0 < n = positive n more in
          let first = first_decimal n above fits in
          rw (le-leb 1 (length (decimal n)) some, le-leb (length (decimal n)) 10 few, ne_eqb (get_or (decimal n) 0 0) 48 (omega arith)) (or_true (length (decimal n) == 1))
    ] in
    rw (sized, digits, value) refl
  where
    positive : (n : ℕ) → (n == 0) ≡ false → 0 < n
    positive zero e = cc
    positive (suc n) e = omega arith

    or_true : (b : Bool) → (b || true) ≡ true
    or_true true = refl
    or_true false = refl

-- a number in its range that was read
pub within_passed : (low high : ℕ) (text : Field) (n : ℕ) → number_within low high text ≡ Some n → (text ≡ decimal n) × (low ≤ n) × (n ≤ high)
within_passed low high text n e =
    let (m, is) = some_of (number_field text) (λ none. let q = rw none at e in cc) in
    let e1 = rw is at e in
    let both = passed (nat_le low m && nat_le m high) (λ failed. let q = rw failed at e1 in cc) in
    let e2 = rw both at e1 in
    let same : m ≡ n = cc in
    let (above, below) = both_of (nat_le low m) (nat_le m high) both in
    rw (← same) ((number_passed text m is).0, leb-true low m above, leb-true m high below)

-- a number in its range is read
pub number_within-decimal : (low high n : ℕ) → low ≤ n → n ≤ high → n < 10 ^ 10 → number_within low high (decimal n) ≡ Some n
number_within-decimal low high n above below small = rw (number_field-decimal n small, le-leb low n above, le-leb n high below) refl

-- a number in its range, where there is one
pub number_good : (low high : ℕ) (text : Field) → is_some (number_within low high text) ≡ true
    → (text ≡ decimal (unwrap_or (number_within low high text) 0)) × (low ≤ unwrap_or (number_within low high text) 0) × (unwrap_or (number_within low high text) 0 ≤ high)
number_good low high text good =
    with_value _ (number_within low high text) (λ none. let q = rw none at good in cc) (λ n is. rw is (within_passed low high text n is))
