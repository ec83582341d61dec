-- Tests of numbers, of a HIDE and of a former cue that fail.
use Rattle.std.proofs.Common.{◌≡◌, ◌≢◌, ℕ, ◌<◌, ◌≤◌, ◌==◌, ◌&&◌, Bool, true, false, Option, Some, None, suc, refl, arith, inl, inr}
use Rattle.std.specs.Prelude.{nat_le, nat_lt, IfSome}
use Rattle.std.proofs.lemmas.Bool.Decides.{leb_tells, eqb_tells}
use Rattle.cue_types.specs.Hide.{hide_is}
use Rattle.cue_lists.specs.Rules.Alternatives.{with_former}
use Rattle.cue_types.specs.declared.cue.Cue.{Cue}

-- a number isn't at most a smaller one
pub le_fails : (a b : ℕ) → b < a → nat_le a b ≡ false
le_fails a b below = elim (leb_tells a b) [ inl t ↦ absurd (let le : a ≤ b = t.1 in omega arith) | inr t ↦ t.0 ]

pub lt_fails : (a b : ℕ) → b ≤ a → nat_lt a b ≡ false
lt_fails a b below = elim (leb_tells (suc a) b) [ inl t ↦ absurd (let le : suc a ≤ b = t.1 in omega arith) | inr t ↦ t.0 ]

pub eq_fails : (a b : ℕ) → a ≢ b → (a == b) ≡ false
eq_fails a b differ = elim (eqb_tells a b) [ inl t ↦ absurd (differ t.1) | inr t ↦ t.0 ]

-- a test whose second part fails wherever its first is passed
pub guarded : (a b : Bool) → (a ≡ true → b ≡ false) → (a && b) ≡ false
guarded true b fails = fails refl
guarded false b fails = refl

-- a test of a HIDE that fails where there is one
pub hide_test_fails : (o : Option ℕ) (test : ℕ → Bool) (P : ℕ → Type 0) → ((hide : ℕ) → P hide → test hide ≡ false)
    → IfSome o P → hide_is o test ≡ false
hide_test_fails None test P fails fact = refl
hide_test_fails (Some hide) test P fails fact = fails hide fact

-- a test of the former cue that fails where there is one
pub former_test_fails : (o : Option Cue) (test : Cue → Bool) → ((former : Cue) → o ≡ Some former → test former ≡ false)
    → (with_former o test).broken ≡ false
former_test_fails None test fails = refl
former_test_fails (Some former) test fails = fails former refl

-- a number equals itself
pub equal_itself : (n : ℕ) → (n == n) ≡ true
equal_itself n = elim (eqb_tells n n) [ inl t ↦ t.0 | inr t ↦ absurd (t.1 refl) ]
