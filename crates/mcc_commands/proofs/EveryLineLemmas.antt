-- Every packet has a line of an MCC file: of the letters that fit one stands for the most bytes, or none fits.
use Rattle.std.proofs.Common.{◌≡◌, ◌∙◌, ◌<◌, ◌≤◌, ◌/◌, ◌%◌, ◌⊎◌, ◌++◌, ◌∷◌, ap, arith, inl, inr, length, length-append, refl, subst, suc, sym, zero, ℕ, List, [], Option, Some, None}
use Rattle.std.proofs.lemmas.Bool.{cases_eq, cases_lt}
use Rattle.hex_digits.specs.HexDigits.{upper_hex_digit}
use Rattle.mcc_files.proofs.LetterLemmas.{IsKnown, blank, captions, fills, first, identifier, known, known_has_byte, long, second, zeros}
use Rattle.mcc_files.proofs.WriteLemmas.{written_is}
use Rattle.mcc_files.specs.Payloads.{Payload, payload_bytes}
use Rattle.mcc_files.specs.PayloadWriting.{Fits, FitsBest, FitsNone, IsWritten, digits, letter, none, written_bytes}
use Rattle.mcc_files.specs.Writing.{IsWrittenLine, time_text}
use Rattle.time_codes.specs.declared.counting.Counting.{Counting}

-- bytes begin with others, or not
front_or_not : (front bytes : List ℕ) → ((behind : List ℕ) × (bytes ≡ front ++ behind)) ⊎ ((behind : List ℕ) → bytes ≡ front ++ behind → ⊥)
front_or_not [] bytes = inl (bytes, refl)
front_or_not (byte ∷ front) [] = inr (λ behind is. let clash : [] ≡ byte ∷ (front ++ behind) = is in cc)
front_or_not (byte ∷ front) (own ∷ bytes) = elim (cases_eq byte own) [
  | inr other ↦ inr (λ behind is. let all : own ∷ bytes ≡ byte ∷ (front ++ behind) = is in let same : byte ≡ own = cc in other same)
  | inl same ↦ elim (front_or_not front bytes) [
    | inl (behind, is) ↦ inl (behind, ap (λ b. b ∷ bytes) (sym same) ∙ ap (λ l. byte ∷ l) is)
    | inr never ↦ inr (λ behind is. let all : own ∷ bytes ≡ byte ∷ (front ++ behind) = is in let rest : bytes ≡ front ++ behind = cc in never behind rest)
  ]
]

-- a letter fits, or it doesn't
abbrev FitsAt : List ℕ → ℕ → Type 0
FitsAt bytes mark = (stands : List ℕ) × (behind : List ℕ) × Fits bytes mark stands behind

fits_by : (bytes : List ℕ) (mark : ℕ) (found : Option (List ℕ)) → written_bytes mark ≡ found → FitsAt bytes mark ⊎ (FitsAt bytes mark → ⊥)
fits_by bytes mark None is = inr (λ it. let clash : None ≡ Some it.0 = sym is ∙ it.2.is in cc)
fits_by bytes mark (Some stands) is = elim (front_or_not stands bytes) [
  | inl (behind, spelled) ↦ inl (stands, behind, record { is = is; spelled = spelled })
  | inr never ↦ inr (λ it.
      let both : Some it.0 ≡ Some stands = sym it.2.is ∙ is in
      let same : it.0 ≡ stands = cc in
      never it.1 (it.2.spelled ∙ ap (λ l. l ++ it.1) same))
]

-- one letter stands for as many bytes wherever it fits
one_size : (bytes : List ℕ) (mark other : ℕ) (stands behind others rest : List ℕ) → other ≡ mark → Fits bytes mark stands behind → Fits bytes other others rest
    → length others ≤ length stands
one_size bytes mark other stands behind others rest is fits also =
    let both : Some others ≡ Some stands = sym also.is ∙ (ap written_bytes is ∙ fits.is) in
    let same : others ≡ stands = cc in
    omega (arith, ap length same)

-- the best of the letters below a mark
record Best (bytes : List ℕ) (below : ℕ) : Type 0 where
  mark : ℕ
  stands : List ℕ
  behind : List ℕ
  fits : Fits bytes mark stands behind
  most : (other : ℕ) (others rest : List ℕ) → other < below → Fits bytes other others rest → length others ≤ length stands

abbrev NoneBelow : List ℕ → ℕ → Type 0
NoneBelow bytes below = (other : ℕ) (others rest : List ℕ) → other < below → Fits bytes other others rest → ⊥

-- a letter below the next mark is below this one, or it
below_or_it : (other below : ℕ) → other < suc below → (other < below) ⊎ (other ≡ below)
below_or_it other below small = elim (cases_lt other below) [
  | inl less ↦ inl less
  | inr more ↦ inr (omega (arith, small, more))
]

fits_it : (bytes : List ℕ) (other below : ℕ) (others rest : List ℕ) → other ≡ below → Fits bytes other others rest → FitsAt bytes below
fits_it bytes other below others rest is fits = (others, rest, subst (λ m. Fits bytes m others rest) is fits)

with_one : (bytes : List ℕ) (below : ℕ) → Best bytes below ⊎ NoneBelow bytes below → FitsAt bytes below ⊎ (FitsAt bytes below → ⊥)
    → Best bytes (suc below) ⊎ NoneBelow bytes (suc below)
with_one bytes below (inr none_fits) (inr never) = inr (λ other others rest small fits. elim (below_or_it other below small) [
  | inl less ↦ none_fits other others rest less fits
  | inr is ↦ never (fits_it bytes other below others rest is fits)
])
with_one bytes below (inr none_fits) (inl it) = inl (record {
  mark = below;
  stands = it.0;
  behind = it.1;
  fits = it.2;
  most = λ other others rest small fits. elim (below_or_it other below small) [
    | inl less ↦ absurd (none_fits other others rest less fits)
    | inr is ↦ one_size bytes below other it.0 it.1 others rest is it.2 fits
  ];
})
with_one bytes below (inl best) (inr never) = inl (record {
  mark = best.mark;
  stands = best.stands;
  behind = best.behind;
  fits = best.fits;
  most = λ other others rest small fits. elim (below_or_it other below small) [
    | inl less ↦ best.most other others rest less fits
    | inr is ↦ absurd (never (fits_it bytes other below others rest is fits))
  ];
})
with_one bytes below (inl best) (inl it) = elim (cases_lt (length best.stands) (length it.0)) [
  | inl longer ↦ inl (record {
    mark = below;
    stands = it.0;
    behind = it.1;
    fits = it.2;
    most = λ other others rest small fits. elim (below_or_it other below small) [
      | inl less ↦ let few = best.most other others rest less fits in omega (arith, few, longer)
      | inr is ↦ one_size bytes below other it.0 it.1 others rest is it.2 fits
    ];
  })
  | inr enough ↦ inl (record {
    mark = best.mark;
    stands = best.stands;
    behind = best.behind;
    fits = best.fits;
    most = λ other others rest small fits. elim (below_or_it other below small) [
      | inl less ↦ best.most other others rest less fits
      | inr is ↦ let few = one_size bytes below other it.0 it.1 others rest is it.2 fits in omega (arith, few, enough)
    ];
  })
]

best_below : (bytes : List ℕ) (below : ℕ) → Best bytes below ⊎ NoneBelow bytes below
best_below bytes zero = inr (λ other others rest small fits. omega (arith, small))
best_below bytes (suc below) = with_one bytes below (best_below bytes below) (fits_by bytes below (written_bytes below) refl)

-- all letters are below 91
known_small : (mark : ℕ) (stands : List ℕ) → IsKnown mark stands → mark < 91
known_small mark stands (fills more few is same) = omega (arith, few, is)
known_small mark stands (blank is same) = omega (arith, is)
known_small mark stands (first is same) = omega (arith, is)
known_small mark stands (second is same) = omega (arith, is)
known_small mark stands (identifier is same) = omega (arith, is)
known_small mark stands (captions is same) = omega (arith, is)
known_small mark stands (long is same) = omega (arith, is)
known_small mark stands (zeros is same) = omega (arith, is)

letter_small : (mark : ℕ) (stands : List ℕ) → written_bytes mark ≡ Some stands → mark < 91
letter_small mark stands is = known_small mark stands (known mark stands (written_is mark stands is))

best_or_none : (bytes : List ℕ) → ((mark : ℕ) × (stands : List ℕ) × (behind : List ℕ) × FitsBest bytes mark stands behind) ⊎ FitsNone bytes
best_or_none bytes = elim (best_below bytes 91) [
  | inl best ↦ inl (
    best.mark,
    best.stands,
    best.behind,
    record {
      fits = best.fits;
      most = λ other others rest fits. best.most other others rest (letter_small other others fits.is) fits;
    },
  )
  | inr none_fits ↦ inr (λ mark stands behind fits. none_fits mark stands behind (letter_small mark stands fits.is) fits)
]

-- so all bytes are written
shorter : (bytes stands behind : List ℕ) (mark : ℕ) → Fits bytes mark stands behind → length behind < length bytes
shorter bytes stands behind mark fits =
    let some = known_has_byte mark stands (known mark stands (written_is mark stands fits.is)) in
    let own : length stands ≡ suc (length some.1) = ap length some.2 in
    omega (arith, own, ap length fits.spelled ∙ length-append stands behind)

written : (size : ℕ) (bytes : List ℕ) → length bytes ≤ size → (text : List ℕ) × IsWritten bytes text
written size [] within = ([], none)
written zero (byte ∷ bytes) within = absurd (omega (arith, within))
written (suc size) (byte ∷ bytes) within = elim (best_or_none (byte ∷ bytes)) [
  | inl (mark, stands, behind, best) ↦
      let less = shorter (byte ∷ bytes) stands behind mark best.fits in
      let (text, is) = written size behind (omega (arith, within, less)) in
      (mark ∷ text, letter (byte ∷ bytes) mark stands behind text best is)
  | inr none_fits ↦
      let (text, is) = written size bytes (omega (arith, within)) in
      (upper_hex_digit (byte / 16) ∷ upper_hex_digit (byte % 16) ∷ text, digits byte bytes text none_fits is)
]

pub line_of : (count : Counting) (frame : ℕ) (payload : Payload) → (line : List ℕ) × IsWrittenLine count frame payload line
line_of count frame payload =
    let (text, is) = written (length (payload_bytes payload)) (payload_bytes payload) (omega arith) in
    (time_text count frame ++ (9 ∷ (text ++ (10 ∷ []))), record { text = text; is = is; spelled = refl })
