-- The bytes of an item are taken one after another.
use Rattle.std.proofs.Common.{◌≡◌, ℕ, suc, ◌≤◌, ◌<◌, true, List, [], ◌∷◌, ◌++◌, length, take, drop, get_or, None, Some, Ok, Err, refl, ap, sym, ◌∙◌, subst, append_assoc, append-nil, drop-cons}
use Rattle.std.proofs.lemmas.List.{take-append-drop}
use Rattle.cc_base.specs.declared.why.Why.{Why}
use Rattle.mcc_files.specs.Counts.{AreCounted}
use Rattle.mcc_files.specs.PayloadReading.{joined, why_of_byte}
use Rattle.mcc_files.specs.declared.payload_reader.Counted.{Counted}
use Rattle.mcc_files.proofs.StepLemmas.{joined_both}

-- this many were taken after those before
pub record AreTaken (before taken : List ℕ) (counted : Counted) : Type 0 where
  pub join : joined true before taken ≡ Ok (before ++ taken)
  pub count : AreCounted (before ++ taken) counted
  pub short : counted.len ≤ 259

pub none_taken : (before : List ℕ) (counted : Counted) → AreCounted before counted → counted.len ≤ 259 → AreTaken before [] counted
none_taken before counted are short = record {
  join = ap (λ b. Ok b) (sym (append-nil before));
  count = subst (λ b. AreCounted b counted) (sym (append-nil before)) are;
  short = short;
}

-- one more
pub one_taken : (before taken : List ℕ) (byte : ℕ) (old new : Counted) → AreTaken before taken old
    → why_of_byte true (before ++ taken) byte ≡ None → AreCounted ((before ++ taken) ++ byte ∷ []) new → new.len ≤ 259 → AreTaken before (taken ++ byte ∷ []) new
one_taken before taken byte old new are fine counted short =
    let same = append_assoc before taken (byte ∷ []) in
    let last : joined true (before ++ taken) (byte ∷ []) ≡ Ok ((before ++ taken) ++ byte ∷ []) = rw fine refl in
    record {
      join = joined_both true before taken (before ++ taken) (byte ∷ []) (Ok (before ++ (taken ++ byte ∷ []))) are.join (last ∙ ap (λ b. Ok b) same);
      count = subst (λ b. AreCounted b new) same counted;
      short = short;
    }

-- one offends
pub one_offends : (before taken : List ℕ) (byte : ℕ) (rest : List ℕ) (old : Counted) (reason : Why) → AreTaken before taken old
    → why_of_byte true (before ++ taken) byte ≡ Some reason → joined true before (taken ++ byte ∷ rest) ≡ Err reason
one_offends before taken byte rest old reason are wrong =
    let last : joined true (before ++ taken) (byte ∷ rest) ≡ Err reason = rw wrong refl in
    joined_both true before taken (before ++ taken) (byte ∷ rest) (Err reason) are.join last

-- a list is what stands before a place, the item there, and the rest
pub around : (xs : List ℕ) (i : ℕ) → i < length xs → xs ≡ take i xs ++ (get_or xs i 0 ∷ drop (suc i) xs)
around xs i below = sym (take-append-drop i xs) ∙ ap (λ r. take i xs ++ r) (drop-cons xs i 0 below)
