-- A test of a whole table, which computes, and the rule that it gives at each entry.
use Rattle.std.proofs.Common.{◌≡◌, ◌||◌, not, refl, ℕ, zero, suc, ◌<◌, ◌⊎◌, inl, inr, Bool, true, false, ◌&&◌, arith, subst}
use Rattle.std.proofs.lemmas.Bool.{and_parts, cases_lt}
use Rattle.line21_codes.specs.declared.channels.FieldNumber.{FieldNumber}
use Rattle.line21_codes.specs.declared.channels.FieldNumber.TheVariants.{One, Two}
use Rattle.line21_codes.specs.declared.styles.Colour.{Colour}
use Rattle.line21_codes.specs.declared.styles.Colour.TheVariants.{White, Green, Blue, Cyan, Red, Yellow, Magenta}

-- the test passes at each number below the bound
unfoldable pub all_below : (ℕ → Bool) → ℕ → Bool
all_below p zero = true
all_below p (suc n) = p n && all_below p n

-- a number below the successor is below the number or is it
below_suc : (k n : ℕ) → k < suc n → (k < n) ⊎ (n ≡ k)
below_suc k n below = elim (cases_lt k n) [ inl less ↦ inl less | inr more ↦ inr (omega arith) ]

-- a test that passes below the bound passes at each number there
pub at_each : (p : ℕ → Bool) (n : ℕ) → all_below p n ≡ true → (k : ℕ) → k < n → p k ≡ true
unfolding all_below
at_each p zero passes k below = absurd (omega arith)
at_each p (suc n) passes k below =
    let parts = and_parts (p n) (all_below p n) passes in
    elim (below_suc k n below) [
      | inl less ↦ at_each p n parts.1 k less
      | inr same ↦ subst (λ m. p m ≡ true) same parts.0
    ]

-- the test passes at both truth values
unfoldable pub all_bools : (Bool → Bool) → Bool
all_bools p = p true && p false

-- a test that passes at both passes at each
pub at_bool : (p : Bool → Bool) → all_bools p ≡ true → (b : Bool) → p b ≡ true
unfolding all_bools
at_bool p passes true = (and_parts (p true) (p false) passes).0
at_bool p passes false = (and_parts (p true) (p false) passes).1

-- the test passes in both fields
unfoldable pub all_fields : (FieldNumber → Bool) → Bool
all_fields p = p One && p Two

-- a test that passes in both passes in each
pub at_field : (p : FieldNumber → Bool) → all_fields p ≡ true → (in_field : FieldNumber) → p in_field ≡ true
unfolding all_fields
at_field p passes One = (and_parts (p One) (p Two) passes).0
at_field p passes Two = (and_parts (p One) (p Two) passes).1

-- the test passes at each colour
unfoldable pub all_colours : (Colour → Bool) → Bool
all_colours p = p White && (p Green && (p Blue && (p Cyan && (p Red && (p Yellow && p Magenta)))))

-- a test that passes at all colours passes at each
pub at_colour : (p : Colour → Bool) → all_colours p ≡ true → (c : Colour) → p c ≡ true
unfolding all_colours
at_colour p passes White = (and_parts (p White) _ passes).0
at_colour p passes Green = (and_parts (p Green) _ (and_parts (p White) _ passes).1).0
at_colour p passes Blue = (and_parts (p Blue) _ (and_parts (p Green) _ (and_parts (p White) _ passes).1).1).0
at_colour p passes Cyan = (and_parts (p Cyan) _ (and_parts (p Blue) _ (and_parts (p Green) _ (and_parts (p White) _ passes).1).1).1).0
at_colour p passes Red = (and_parts (p Red) _ (and_parts (p Cyan) _ (and_parts (p Blue) _ (and_parts (p Green) _ (and_parts (p White) _ passes).1).1).1).1).0
at_colour p passes Yellow = (and_parts (p Yellow) _ (and_parts (p Red) _ (and_parts (p Cyan) _ (and_parts (p Blue) _ (and_parts (p Green) _ (and_parts (p White) _ passes).1).1).1).1).1).0
at_colour p passes Magenta = (and_parts (p Yellow) _ (and_parts (p Red) _ (and_parts (p Cyan) _ (and_parts (p Blue) _ (and_parts (p Green) _ (and_parts (p White) _ passes).1).1).1).1).1).1

-- a premise that computes
unfoldable pub implies : Bool → Bool → Bool
implies premise test = not premise || test

-- a test under a premise that holds
pub implies-true : (premise test : Bool) → implies premise test ≡ true → premise ≡ true → test ≡ true
unfolding implies
implies-true true true h p = refl
implies-true true false h p = h
implies-true false true h p = refl
implies-true false false h p = p
