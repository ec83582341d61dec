-- How payloads are written.
use Rattle.std.proofs.Common.{◌≡◌, ◌==◌, ◌&&◌, cond, Bool, true, false, nat_le, ℕ, zero, suc, ◌+◌, ◌-◌, ◌*◌, ◌/◌, ◌%◌, ◌≤◌, ◌<◌, List, [], ◌∷◌, ◌++◌, length, take, drop, get_or, Option, Some, None, refl, ap, sym, ◌∙◌, subst, arith, append_assoc, append-nil, length-append, length-drop}
use Rattle.std.proofs.Math.Seq.{take-length}
use Rattle.std.proofs.lemmas.Grind.{common_steps}
use Rattle.hex_digits.specs.HexDigits.{upper_hex_digit}
use Rattle.mcc_files.specs.Fillers.{AreAhead}
use Rattle.mcc_files.specs.Letters.{fillers, letter_bytes}
use Rattle.mcc_files.specs.PayloadWriting.{FitsBest, FitsNone, IsWritten, none, letter, digits, written_bytes}
use Rattle.mcc_files.proofs.LetterLemmas.{IsKnown, fills, blank, first, second, identifier, captions, long, zeros, fewer, known, length_fillers}

-- one more
pub fillers_more : (count : ℕ) (behind : List ℕ) → fillers (suc count) ++ behind ≡ fillers count ++ (0xFA ∷ 0x00 ∷ 0x00 ∷ behind)
fillers_more zero behind = refl
fillers_more (suc count) behind = ap (λ bytes. 0xFA ∷ 0x00 ∷ 0x00 ∷ bytes) (fillers_more count behind)

pub one_filler_more : (all rest behind : List ℕ) (count next : ℕ) → all ≡ fillers count ++ rest → rest ≡ 0xFA ∷ 0x00 ∷ 0x00 ∷ behind → count + 1 ≡ next
    → all ≡ fillers next ++ behind
one_filler_more all rest behind count next before front at =
    let same : suc count ≡ next = omega arith in
    before ∙ (ap (λ r. fillers count ++ r) front ∙ (sym (fillers_more count behind) ∙ ap (λ n. fillers n ++ behind) same))

-- all that is left
pub all_left : (size : ℕ) (bytes : List ℕ) → take (length bytes - size) (drop size bytes) ≡ drop size bytes
all_left size bytes = subst (λ n. take n (drop size bytes) ≡ drop size bytes) (length-drop size bytes) (take-length (drop size bytes))

-- this many bytes in front
pub front_of : (front back : List ℕ) → (take (length front) (front ++ back) ≡ front) × (drop (length front) (front ++ back) ≡ back)
front_of [] back = (refl, refl)
front_of (x ∷ front) back = let below = front_of front back in (ap (λ xs. x ∷ xs) below.0, below.1)

-- fillers ahead are as many as a letter stands for
pub few_letter : (count : ℕ) (bytes : List ℕ) → AreAhead count bytes → count ≡ 0 → (behind : List ℕ) → bytes ≡ 0xFA ∷ 0x00 ∷ 0x00 ∷ behind → ⊥
few_letter count bytes ahead empty behind front =
    let nine = ahead.most behind (sym (ap (λ n. fillers n ++ ahead.behind) empty) ∙ (sym ahead.spelled ∙ front)) in
    absurd (omega (arith, nine))

-- they are 9, or no more stand there
pub at_most : (many count : ℕ) (rest behind : List ℕ) → fillers many ++ rest ≡ fillers count ++ behind
    → ((others : List ℕ) → behind ≡ 0xFA ∷ 0x00 ∷ 0x00 ∷ others → count ≡ 9) → many ≤ 9 → many ≤ count
at_most many count rest behind same most few =
    let cases : (b : Bool) → nat_le 9 count ≡ b → many ≤ count =
    elim [
      | true ↦ λ e. let enough : 9 ≤ count = grind (arith, common_steps) in omega arith
      | false ↦ λ e.
          let below : count < 9 = grind (arith, common_steps) in
          fewer many count rest behind same (λ others stands. let nine = most others stands in absurd (omega arith))
    ] in
    cases (nat_le 9 count) refl

-- lists that are the same begin so
pub first_same : (a b : ℕ) (xs ys : List ℕ) → a ∷ xs ≡ b ∷ ys → a ≡ b
first_same a b xs ys is = cc

-- a letter that fits where FA 00 00 stands is one of fillers, and these are no more
pub no_more : (count : ℕ) (bytes : List ℕ) (ahead : AreAhead count bytes) (other : ℕ) (others rest : List ℕ) → IsKnown other others
    → bytes ≡ others ++ rest → (more : List ℕ) → bytes ≡ 0xFA ∷ 0x00 ∷ 0x00 ∷ more → length others ≤ 3 * count
no_more count bytes ahead other others rest (fills again few is same) spelled more front =
    let size_is : length others ≡ 3 * (suc again) = ap (λ l. length l) same ∙ length_fillers (suc again) in
    let both : fillers (suc again) ++ rest ≡ fillers count ++ ahead.behind = sym (ap (λ o. o ++ rest) same) ∙ (sym spelled ∙ ahead.spelled) in
    let least : suc again ≤ count = at_most (suc again) count rest ahead.behind both ahead.most (omega arith) in
    omega (arith, size_is, least)
no_more count bytes ahead other others rest (blank is same) spelled more front = absurd (cc)
no_more count bytes ahead other others rest (first is same) spelled more front = absurd (cc)
no_more count bytes ahead other others rest (second is same) spelled more front = absurd (cc)
no_more count bytes ahead other others rest (identifier is same) spelled more front = absurd (cc)
no_more count bytes ahead other others rest (captions is same) spelled more front = absurd (cc)
no_more count bytes ahead other others rest (long is same) spelled more front =
    let firsts = first_same 0xE1 0xFA _ _ (sym (spelled ∙ ap (λ o. o ++ rest) same) ∙ front) in
    absurd (omega (arith, firsts))
no_more count bytes ahead other others rest (zeros is same) spelled more front = absurd (cc)

-- the first three of at least three
pub three_first : (bytes : List ℕ) (a b c : ℕ) → 3 ≤ length bytes → get_or bytes 0 0 ≡ a → get_or bytes 1 0 ≡ b → get_or bytes 2 0 ≡ c
    → bytes ≡ a ∷ b ∷ c ∷ drop 3 bytes
three_first [] a b c enough is is' is'' = absurd (omega arith)
three_first (x ∷ []) a b c enough is is' is'' = absurd (omega arith)
three_first (x ∷ y ∷ []) a b c enough is is' is'' = absurd (omega arith)
three_first (x ∷ y ∷ z ∷ rest) a b c enough is is' is'' = rw (← is, ← is', ← is'') refl

pub nine_ahead : (count : ℕ) (bytes rest : List ℕ) → bytes ≡ fillers count ++ rest → 9 ≤ count → count ≤ 9 → AreAhead 9 bytes
nine_ahead count bytes rest spelled low high =
    let nine : count ≡ 9 = omega arith in
    record { behind = rest; spelled = spelled ∙ ap (λ n. fillers n ++ rest) nine; few = omega arith; most = λ others is. refl }

pub filler_by : (longs fits : Bool) (others : Option (List ℕ)) (stands same : List ℕ) → longs ≡ false → fits ≡ true → stands ≡ same
    → cond longs None (cond fits (Some stands) others) ≡ Some same
filler_by true fits others stands same other fit is = absurd (cc)
filler_by false true others stands same other fit is = ap (λ xs. Some xs) is
filler_by false false others stands same other fit is = absurd (cc)

pub written_by : (longs : Bool) (found : Option (List ℕ)) (stands : List ℕ) → cond longs None found ≡ Some stands → found ≡ Some stands
written_by true found stands is = absurd (cc)
written_by false found stands is = is

-- the letter of fillers
pub filler_letter : (count : ℕ) → 1 ≤ count → count ≤ 9 → written_bytes (70 + count) ≡ Some (fillers count)
filler_letter count low high =
    let same : 70 + count - 70 ≡ count = omega arith in
    filler_by (70 + count == 85) (nat_le 71 (70 + count) && nat_le (70 + count) 79) _ (fillers (70 + count - 70)) (fillers count) (grind (arith, common_steps))
    (grind (arith, common_steps)) (ap (λ n. fillers n) same)

-- a letter that is written stands for what it stands for
pub written_is : (mark : ℕ) (stands : List ℕ) → written_bytes mark ≡ Some stands → letter_bytes mark ≡ Some stands
written_is mark stands is = written_by (mark == 85) (letter_bytes mark) stands is

pub filler_best : (count size : ℕ) (bytes : List ℕ) → AreAhead count bytes → size ≡ count → 3 ≤ length bytes
    → get_or bytes 0 0 ≡ 0xFA → get_or bytes 1 0 ≡ 0x00 → get_or bytes 2 0 ≡ 0x00
    → FitsBest bytes (70 + count) (take (3 * size) bytes) (drop (3 * size) bytes)
filler_best count size bytes ahead same enough a b c =
    let front = three_first bytes 0xFA 0x00 0x00 enough a b c in
    let cases : (n : ℕ) → count ≡ n → 1 ≤ count =
    elim [ zero ↦ λ empty. absurd (few_letter count bytes ahead empty (drop 3 bytes) front) | suc n ↦ λ some. omega arith ] in
    let low = cases count refl in
    let both = front_of (fillers count) ahead.behind in
    let size_is : length (fillers count) ≡ 3 * size = length_fillers count ∙ ap (λ n. 3 * n) (sym same) in
    let taken : take (3 * size) bytes ≡ fillers count =
    ap (λ n. take n bytes) (sym size_is) ∙ (ap (λ xs. take (length (fillers count)) xs) ahead.spelled ∙ both.0) in
    let left : drop (3 * size) bytes ≡ ahead.behind =
    ap (λ n. drop n bytes) (sym size_is) ∙ (ap (λ xs. drop (length (fillers count)) xs) ahead.spelled ∙ both.1) in
    record {
      fits = record {
        is = filler_letter count low ahead.few ∙ ap (λ xs. Some xs) (sym taken);
        spelled = ahead.spelled ∙ (ap (λ xs. xs ++ ahead.behind) (sym taken) ∙ ap (λ xs. take (3 * size) bytes ++ xs) (sym left));
      };
      most = λ other others rest fit.
          let least = no_more count bytes ahead other others rest (known other others (written_is other others fit.is)) fit.spelled (drop 3 bytes) front in
          let stands : length (take (3 * size) bytes) ≡ 3 * count = ap (λ xs. length xs) taken ∙ length_fillers count in
          omega (arith, least, stands);
    }

-- what is written of the rest after a letter
pub letter_more : (all rest out : List ℕ) (letter_is size : ℕ) → ((text : List ℕ) → IsWritten rest text → IsWritten all (out ++ text))
    → FitsBest rest letter_is (take size rest) (drop size rest) → (text : List ℕ) → IsWritten (take (length rest - size) (drop size rest)) text
    → IsWritten all ((out ++ letter_is ∷ []) ++ text)
letter_more all rest out letter_is size before best text is =
    subst (λ t. IsWritten all t) (sym (append_assoc out (letter_is ∷ []) text))
    (before (letter_is ∷ text) (letter rest letter_is (take size rest) (drop size rest) text best (subst (λ xs. IsWritten xs text) (all_left size rest) is)))

-- and after two digits
pub digits_more : (all rest out : List ℕ) (byte high low : ℕ) → ((text : List ℕ) → IsWritten rest text → IsWritten all (out ++ text))
    → rest ≡ byte ∷ drop 1 rest → FitsNone rest → high ≡ upper_hex_digit (byte / 16) → low ≡ upper_hex_digit (byte % 16)
    → (text : List ℕ) → IsWritten (take (length rest - 1) (drop 1 rest)) text → IsWritten all (((out ++ high ∷ []) ++ low ∷ []) ++ text)
digits_more all rest out byte high low before front no_letter high_is low_is text is =
    let more : IsWritten (drop 1 rest) text = subst (λ xs. IsWritten xs text) (all_left 1 rest) is in
    let one : IsWritten (byte ∷ drop 1 rest) (upper_hex_digit (byte / 16) ∷ upper_hex_digit (byte % 16) ∷ text) =
    digits byte (drop 1 rest) text (subst (λ xs. FitsNone xs) front no_letter) more in
    let two : IsWritten rest (high ∷ low ∷ text) = rw (high_is, low_is) (subst (λ xs. IsWritten xs (upper_hex_digit (byte / 16) ∷ upper_hex_digit (byte % 16) ∷ text)) (sym front) one) in
    subst (λ t. IsWritten all t) (sym (append_assoc (out ++ high ∷ []) (low ∷ []) text ∙ append_assoc out (high ∷ []) (low ∷ text))) (before (high ∷ low ∷ text) two)

-- nothing is left
pub nothing_left : (all rest out : List ℕ) → ((text : List ℕ) → IsWritten rest text → IsWritten all (out ++ text)) → length rest < 1 → IsWritten all out
nothing_left all [] out before few = subst (λ t. IsWritten all t) (append-nil out) (before [] none)
nothing_left all (x ∷ rest) out before few = absurd (omega arith)

-- fillers ahead are within the bytes
pub fillers_fit : (count size : ℕ) (bytes : List ℕ) → AreAhead count bytes → size ≡ count → 3 * size ≤ length bytes
fillers_fit count size bytes ahead same =
    let all : length bytes ≡ length (fillers count) + length ahead.behind = ap (λ xs. length xs) ahead.spelled ∙ length-append (fillers count) ahead.behind in
    omega (arith, all, length_fillers count)

-- the first of at least one
pub one_first : (bytes : List ℕ) → 1 ≤ length bytes → bytes ≡ get_or bytes 0 0 ∷ drop 1 bytes
one_first [] enough = absurd (omega arith)
one_first (byte ∷ bytes) enough = refl
