-- The characters of the code sets are spelled.
use Rattle.std.proofs.Common.{◌≡◌, ℕ, ◌<◌, ◌≤◌, ◌⊎◌, inl, inr, zero, suc, Bool, true, ◌&&◌, refl, IsSome, is_some, Option, Some, None, arith, subst}
use Rattle.std.proofs.lemmas.Bool.{and_parts, cases_lt}
use Rattle.std.proofs.lemmas.Bool.Decides.{nat_tests}
use Rattle.dtvcc_codes.specs.declared.commands.Command.TheVariants.{Put}
use Rattle.dtvcc_codes.specs.Characters.{g0_of, g2_of}
use Rattle.dtvcc_codes.specs.CharacterSpellings.{dtvcc_spelling}
use Rattle.dtvcc_codes.specs.Spellable.{IsSpellable}

-- the test passes at each number below the bound
unfoldable pub all_below : (ℕ → Bool) → ℕ → Bool
all_below p zero = true
all_below p (suc n) = p n && all_below p n

-- a number below the successor is below the number or is it
below_suc : (k n : ℕ) → k < suc n → (k < n) ⊎ (n ≡ k)
below_suc k n below = elim (cases_lt k n) [ inl less ↦ inl less | inr more ↦ inr (omega arith) ]

-- a test that passes below the bound passes at each number there
pub at_each : (p : ℕ → Bool) (n : ℕ) → all_below p n ≡ true → (k : ℕ) → k < n → p k ≡ true
unfolding all_below
at_each p zero passes k below = absurd (omega arith)
at_each p (suc n) passes k below =
    let parts = and_parts (p n) (all_below p n) passes in
    elim (below_suc k n below) [
      | inl less ↦ at_each p n parts.1 k less
      | inr same ↦ subst (λ m. p m ≡ true) same parts.0
    ]

-- the low line is spelled
pub low_line_spelled : IsSome (dtvcc_spelling 0x5F)
unfolding dtvcc_spelling
low_line_spelled = refl

-- a character of G0 is spelled
pub g0_spelled : (code : ℕ) → 0x20 ≤ code → code ≤ 0x7F → IsSome (dtvcc_spelling (g0_of code))
unfolding dtvcc_spelling
g0_spelled code from to = grind (arith, nat_tests)

-- a character of G1 is spelled
pub g1_spelled : (code : ℕ) → 0xA0 ≤ code → code ≤ 0xFF → IsSome (dtvcc_spelling code)
unfolding dtvcc_spelling
g1_spelled code from to = grind (arith, nat_tests)

-- what a code puts is the transparent space or is spelled
is_put_spelled : Option ℕ → Bool
is_put_spelled None = true
is_put_spelled (Some ch) = is_some (dtvcc_spelling ch)

-- what a code of G2 puts, is so
all_g2_spelled : all_below (λ code. is_put_spelled (g2_of code)) 0x80 ≡ true
unfolding all_below is_put_spelled dtvcc_spelling g2_of
all_g2_spelled = refl

put_spelled : (put : Option ℕ) → is_put_spelled put ≡ true → IsSpellable (Put put)
unfolding is_put_spelled
put_spelled None is = tt
put_spelled (Some ch) is = is

pub g2_spelled : (code : ℕ) → code ≤ 0x7F → IsSpellable (Put (g2_of code))
g2_spelled code to =
    let below : code < 0x80 = omega arith in
    put_spelled (g2_of code) (at_each (λ code. is_put_spelled (g2_of code)) 0x80 all_g2_spelled code below)
