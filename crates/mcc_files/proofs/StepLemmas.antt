-- Steps over the bytes and items of payloads.
use Rattle.std.proofs.Common.{◌≡◌, ℕ, suc, ◌+◌, ◌*◌, Bool, true, false, List, [], ◌∷◌, ◌++◌, length, Option, Some, None, Result, Ok, refl, sym, ◌∙◌, subst, arith, append_assoc, append-nil, add-zero}
use Rattle.std.proofs.lemmas.Grind.{common_steps}
use Rattle.cc_base.specs.declared.why.Why.{Why}
use Rattle.hex_digits.specs.HexDigits.{hex_value}
use Rattle.mcc_files.specs.Letters.{letter_bytes}
use Rattle.mcc_files.specs.PayloadReading.{Open, is_whole, joined, joined_on, read_from, step, why_of_byte}
use Rattle.mcc_files.proofs.LetterLemmas.{no_letter_is_digit}

-- nothing goes on after a whole packet
pub whole_stops : (judging : Bool) (bytes : List ℕ) (byte : ℕ) → is_whole bytes ≡ true → why_of_byte judging bytes byte ≡ None → ⊥
whole_stops judging [] byte whole fine = cc
whole_stops judging (did ∷ []) byte whole fine = cc
whole_stops judging (did ∷ sdid ∷ []) byte whole fine = cc
whole_stops judging (did ∷ sdid ∷ count ∷ rest) byte whole fine = grind (arith, common_steps)

-- a byte that is taken
pub joined_first : (reason : Option Why) (rest : Result (List ℕ) Why) (all : List ℕ) → joined_on reason rest ≡ Ok all → (reason ≡ None) × (rest ≡ Ok all)
joined_first None rest all is = (refl, is)
joined_first (Some reason) rest all is = absurd (cc)

-- what is joined is what was there, and the bytes
pub joined_is : (judging : Bool) (before bytes all : List ℕ) → joined judging before bytes ≡ Ok all → all ≡ before ++ bytes
joined_is judging before [] all is = let same : before ≡ all = cc in sym same ∙ sym (append-nil before)
joined_is judging before (byte ∷ bytes) all is =
    let h = joined_first (why_of_byte judging before byte) (joined judging (before ++ byte ∷ []) bytes) all is in
    joined_is judging (before ++ byte ∷ []) bytes all h.1 ∙ append_assoc before (byte ∷ []) bytes

-- bytes are joined one after another
pub record JoinsTwice (judging : Bool) (before xs ys all : List ℕ) : Type 0 where
  pub middle : List ℕ
  pub first : joined judging before xs ≡ Ok middle
  pub second : joined judging middle ys ≡ Ok all

pub joined_split : (judging : Bool) (before xs ys all : List ℕ) → joined judging before (xs ++ ys) ≡ Ok all → JoinsTwice judging before xs ys all
joined_split judging before [] ys all is = record { middle = before; first = refl; second = is }
joined_split judging before (x ∷ xs) ys all is =
    let h = joined_first (why_of_byte judging before x) (joined judging (before ++ x ∷ []) (xs ++ ys)) all is in
    let twice = joined_split judging (before ++ x ∷ []) xs ys all h.1 in
    record {
      middle = twice.middle;
      first = subst (λ r. joined_on r (joined judging (before ++ x ∷ []) xs) ≡ Ok twice.middle) (sym h.0) twice.first;
      second = twice.second;
    }

pub joined_both : (judging : Bool) (before xs middle : List ℕ) (ys : List ℕ) (all : Result (List ℕ) Why)
    → joined judging before xs ≡ Ok middle → joined judging middle ys ≡ all → joined judging before (xs ++ ys) ≡ all
joined_both judging before [] middle ys all first second =
    let same : before ≡ middle = cc in
    subst (λ b. joined judging b ys ≡ all) (sym same) second
joined_both judging before (x ∷ xs) middle ys all first second =
    let h = joined_first (why_of_byte judging before x) (joined judging (before ++ x ∷ []) xs) middle first in
    subst (λ r. joined_on r (joined judging (before ++ x ∷ []) (xs ++ ys)) ≡ all) (sym h.0) (joined_both judging (before ++ x ∷ []) xs middle ys all h.1 second)

-- the text leads from one front to another
abbrev pub leads : Bool → Open → List ℕ → Open → Type 0
leads judging front [] to = front ≡ to
leads judging front (byte ∷ text) to = (next : Open) × (step judging front byte ≡ Ok next) × leads judging next text to

pub leads_both : (judging : Bool) (front : Open) (xs ys : List ℕ) (middle to : Open) → leads judging front xs middle → leads judging middle ys to
    → leads judging front (xs ++ ys) to
leads_both judging front [] ys middle to first second = subst (λ f. leads judging f ys to) (sym first) second
leads_both judging front (x ∷ xs) ys middle to first second = (first.0, first.1, leads_both judging first.0 xs ys middle to first.2 second)

-- what is read after a text that leads somewhere
pub read_leads : (judging : Bool) (place : ℕ) (front : Open) (text more : List ℕ) (to : Open) → leads judging front text to
    → read_from judging place front (text ++ more) ≡ read_from judging (place + length text) to more
read_leads judging place front [] more to is = subst (λ f. read_from judging place front more ≡ read_from judging (place + 0) f more) is (rw add-zero refl)
read_leads judging place front (byte ∷ text) more to is =
    let next = is.0 in
    let one : step judging front byte ≡ Ok next = is.1 in
    let at : place + 1 + length text ≡ place + suc (length text) = omega arith in
    rw one (subst (λ p. read_from judging (place + 1) next (text ++ more) ≡ read_from judging p to more) at (read_leads judging (place + 1) next text more to is.2))

-- a packet is not whole where a byte after it is taken
pub not_whole : (judging : Bool) (before : List ℕ) (byte : ℕ) (bytes all : List ℕ) → joined judging before (byte ∷ bytes) ≡ Ok all → is_whole before ≡ false
not_whole judging before byte bytes all is =
    let h = joined_first (why_of_byte judging before byte) (joined judging (before ++ byte ∷ []) bytes) all is in
    let cases : (b : Bool) → is_whole before ≡ b → is_whole before ≡ false =
    elim [ true ↦ λ whole. absurd (whole_stops judging before byte whole h.0) | false ↦ λ not. not ] in
    cases (is_whole before) refl

-- fronts
abbrev pub at_bytes : List ℕ → Open
at_bytes bytes = record { digit = None; bytes = bytes }

-- two digits lead on
pub digits_lead : (judging : Bool) (before after : List ℕ) (high low first second : ℕ) → hex_value high ≡ Some first → hex_value low ≡ Some second
    → joined judging before ((16 * first + second) ∷ []) ≡ Ok after → leads judging (at_bytes before) (high ∷ low ∷ []) (at_bytes after)
digits_lead judging before after high low first second high_is low_is is =
    let open_yet = not_whole judging before (16 * first + second) [] after is in
    let no_letter = no_letter_is_digit high first high_is in
    let one : step judging (at_bytes before) high ≡ Ok (record { digit = Some first; bytes = before }) = rw (open_yet, no_letter, high_is) refl in
    let two : step judging (record { digit = Some first; bytes = before }) low ≡ Ok (at_bytes after) = rw (open_yet, low_is, is) refl in
    (record { digit = Some first; bytes = before }, one, (at_bytes after, two, refl))

-- a letter leads on
pub letter_leads : (judging : Bool) (before after : List ℕ) (letter byte : ℕ) (bytes : List ℕ) → letter_bytes letter ≡ Some (byte ∷ bytes)
    → joined judging before (byte ∷ bytes) ≡ Ok after → leads judging (at_bytes before) (letter ∷ []) (at_bytes after)
letter_leads judging before after letter byte bytes letter_is is =
    let open_yet = not_whole judging before byte bytes after is in
    let one : step judging (at_bytes before) letter ≡ Ok (at_bytes after) = rw (open_yet, letter_is, is) refl in
    (at_bytes after, one, refl)
