-- The first of the bytes of an item, down to one that offends.
use Rattle.std.proofs.Common.{◌≡◌, ℕ, suc, ◌+◌, ◌≤◌, ◌<◌, true, List, [], ◌∷◌, ◌++◌, length, length-append, take, drop, get_or, None, Some, refl, ap, sym, ◌∙◌, subst, append_assoc, append-nil, drop-cons, add-one, arith}
use Rattle.std.proofs.lemmas.List.{take_more}
use Rattle.cc_base.specs.declared.why.Why.{Why}
use Rattle.mcc_files.specs.Counts.{AreCounted}
use Rattle.mcc_files.specs.Letters.{letter_bytes}
use Rattle.mcc_files.specs.PayloadReading.{fits_on, fitting, why_of_byte}
use Rattle.mcc_files.specs.declared.payload_reader.Counted.{Counted}
use Rattle.mcc_files.proofs.ItemLemmas.{AreTaken, none_taken, one_taken}
use Rattle.mcc_files.proofs.LetterLemmas.{IsKnown, known, length_fillers}
use Rattle.mcc_files.proofs.LetterLemmas.IsKnown.{blank, captions, fills, first, identifier, long, second, zeros}

-- this many of the bytes fit
pub record FitSoFar (before brought : List ℕ) (i : ℕ) (counted : Counted) (fit : List ℕ) : Type 0 where
  pub taken : AreTaken before (take i brought) counted
  pub are : fit ≡ take i brought
  pub all : fitting before brought ≡ take i brought ++ fitting (before ++ take i brought) (drop i brought)

pub none_fit : (before brought : List ℕ) (counted : Counted) → AreCounted before counted → counted.len ≤ 259 → FitSoFar before brought 0 counted []
none_fit before brought counted are short = record {
  taken = none_taken before counted are short;
  are = refl;
  all = ap (λ b. fitting b brought) (sym (append-nil before));
}

-- after some bytes one more fits
pub fits_one : (before : List ℕ) (byte : ℕ) (rest : List ℕ) → why_of_byte true before byte ≡ None → fitting before (byte ∷ rest) ≡ byte ∷ fitting (before ++ byte ∷ []) rest
fits_one before byte rest fine = ap (λ o. fits_on o byte (fitting (before ++ byte ∷ []) rest)) fine

pub fits_none : (before : List ℕ) (byte : ℕ) (rest : List ℕ) (reason : Why) → why_of_byte true before byte ≡ Some reason → fitting before (byte ∷ rest) ≡ []
fits_none before byte rest reason wrong = ap (λ o. fits_on o byte (fitting (before ++ byte ∷ []) rest)) wrong

pub more_fit : (before brought : List ℕ) (i : ℕ) (old new : Counted) (fit : List ℕ) → i < length brought → FitSoFar before brought i old fit
    → why_of_byte true (before ++ take i brought) (get_or brought i 0) ≡ None → AreCounted ((before ++ take i brought) ++ get_or brought i 0 ∷ []) new → new.len ≤ 259
    → FitSoFar before brought (i + 1) new (fit ++ get_or brought i 0 ∷ [])
more_fit before brought i old new fit below so fine counted short =
    let byte = get_or brought i 0 in
    let front : take (i + 1) brought ≡ take i brought ++ byte ∷ [] = take_more brought i 0 below in
    let behind : drop i brought ≡ byte ∷ drop (i + 1) brought = drop-cons brought i 0 below ∙ ap (λ n. byte ∷ drop n brought) (sym (add-one i)) in
    let one = fits_one (before ++ take i brought) byte (drop (i + 1) brought) fine in
    let rest : fitting (before ++ take i brought) (drop i brought) ≡ byte ∷ fitting (before ++ take (i + 1) brought) (drop (i + 1) brought) =
    ap (λ d. fitting (before ++ take i brought) d) behind
    ∙ (one ∙ ap (λ b. byte ∷ fitting b (drop (i + 1) brought)) (append_assoc before (take i brought) (byte ∷ []) ∙ ap (λ t. before ++ t) (sym front))) in
    record {
      taken = subst (λ t. AreTaken before t new) (sym front) (one_taken before (take i brought) byte old new so.taken fine counted short);
      are = ap (λ f. f ++ byte ∷ []) so.are ∙ sym front;
      all = so.all ∙ (ap (λ r. take i brought ++ r) rest
          ∙ (sym (append_assoc (take i brought) (byte ∷ []) (fitting (before ++ take (i + 1) brought) (drop (i + 1) brought)))
          ∙ ap (λ t. t ++ fitting (before ++ take (i + 1) brought) (drop (i + 1) brought)) (sym front)));
    }

pub fit_ends : (before brought : List ℕ) (i : ℕ) (counted : Counted) (fit : List ℕ) (reason : Why) → i < length brought → FitSoFar before brought i counted fit
    → why_of_byte true (before ++ take i brought) (get_or brought i 0) ≡ Some reason → fit ≡ fitting before brought
fit_ends before brought i counted fit reason below so wrong =
    let rest : fitting (before ++ take i brought) (drop i brought) ≡ [] =
    ap (λ d. fitting (before ++ take i brought) d) (drop-cons brought i 0 below) ∙ fits_none (before ++ take i brought) (get_or brought i 0) (drop (suc i) brought) reason wrong in
    so.are ∙ sym (so.all ∙ (ap (λ r. take i brought ++ r) rest ∙ append-nil (take i brought)))

-- a letter stands for 27 bytes at most
known_few : (letter : ℕ) (stands : List ℕ) → IsKnown letter stands → length stands ≤ 27
known_few letter stands (fills more few is same) = omega (arith, ap length same, length_fillers more)
known_few letter stands (blank is same) = omega (arith, ap length same)
known_few letter stands (first is same) = omega (arith, ap length same)
known_few letter stands (second is same) = omega (arith, ap length same)
known_few letter stands (identifier is same) = omega (arith, ap length same)
known_few letter stands (captions is same) = omega (arith, ap length same)
known_few letter stands (long is same) = omega (arith, ap length same)
known_few letter stands (zeros is same) = omega (arith, ap length same)

pub letter_few : (letter : ℕ) (stands : List ℕ) → letter_bytes letter ≡ Some stands → length stands ≤ 27
letter_few letter stands is = known_few letter stands (known letter stands is)

-- there is room for them
pub fit_room : (before brought : List ℕ) (i : ℕ) (counted : Counted) (fit : List ℕ) → FitSoFar before brought i counted fit → length before + length fit ≤ 259
fit_room before brought i counted fit so =
    let short = so.taken.short in
    let long = so.taken.count.long in
    let parts = length-append before (take i brought) in
    let same = ap length so.are in
    omega (arith, short, long, parts, same)
