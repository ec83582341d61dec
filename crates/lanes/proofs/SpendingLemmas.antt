-- What is granted of a budget, and what is left.
use Rattle.std.proofs.Common.{◌≡◌, ℕ, ◌+◌, ◌-◌, ◌≤◌, Bool, true, false, List, [], ◌∷◌, refl, arith}
use Rattle.std.specs.Prelude.{sum, nat_le, if◌then◌else◌}
use Rattle.std.proofs.lemmas.Bool.Decides.{nat_tests}
use Rattle.std.proofs.lemmas.List.Sums.{sum_by-cons}
use Rattle.lanes.specs.Spending.{granted, left_behind}

-- the sum with one number more in front
sum_cons : (n : ℕ) (ns : List ℕ) → sum (n ∷ ns) ≡ n + sum ns
sum_cons n ns = sum_by-cons (λ x. x) n ns

-- what is granted and what is left are what there was
pub granted_and_left : (left : ℕ) (pieces : List ℕ) → left_behind left pieces + sum (granted left pieces) ≡ left
granted_and_left left [] = omega arith
granted_and_left left (bytes ∷ pieces) =
    at (nat_le bytes left) refl (granted_and_left (left - bytes) pieces) (granted_and_left left pieces)
  where
    fits : nat_le bytes left ≡ true → bytes ≤ left
    fits test = grind (arith, nat_tests)

    at : (test : Bool) → nat_le bytes left ≡ test
        → left_behind (left - bytes) pieces + sum (granted (left - bytes) pieces) ≡ left - bytes
        → left_behind left pieces + sum (granted left pieces) ≡ left
        → (if test then left_behind (left - bytes) pieces else left_behind left pieces)
        + sum (if test then bytes ∷ granted (left - bytes) pieces else granted left pieces) ≡ left
    at true test less same =
        let below : bytes ≤ left = fits test in
        let more = sum_cons bytes (granted (left - bytes) pieces) in
        let all : left_behind (left - bytes) pieces + sum (bytes ∷ granted (left - bytes) pieces) ≡ left = rw more (omega arith) in
        all
    at false test less same = same
