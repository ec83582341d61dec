-- Tests that deny a sentence: each is passed exactly where its sentence doesn't hold.
use Rattle.std.proofs.Common.{◌≡◌, ◌≢◌, ℕ, ◌<◌, ◌≤◌, ◌==◌, ◌&&◌, ◌||◌, Bool, true, false, not, List, [], ◌∷◌, Option, Some, None, refl, arith}
use Rattle.std.specs.Prelude.{nat_le, nat_lt, IfSome, ⊤}
use Rattle.std.specs.List.{AllByRecursion, list_any}
use Rattle.std.proofs.lemmas.Bool.{eqb-true, eqb-false, leb-true, leb-false, ltb-true, ltb-false, lt-ltb}
use Rattle.cue_types.specs.Hide.{hide_is}

-- the test is passed exactly where the sentence doesn't hold
pub record Denies (test : Bool) (P : Type 0) : Type 0 where
  pub holds : test ≡ false → P
  pub fails : test ≡ true → P → ⊥

-- an order of numbers, and that two differ
pub denied_lt : (a b : ℕ) → Denies (nat_le b a) (a < b)
denied_lt a b = record {
  holds = λ no. leb-false b a no;
  fails = λ yes' less. let above : b ≤ a = leb-true b a yes' in omega arith;
}

pub denied_le : (a b : ℕ) → Denies (nat_lt b a) (a ≤ b)
denied_le a b = record {
  holds = λ no. ltb-false b a no;
  fails = λ yes' most. let above : b < a = ltb-true b a yes' in omega arith;
}

pub denied_ne : (a b : ℕ) → Denies (a == b) (a ≢ b)
denied_ne a b = record { holds = λ no. eqb-false a b no; fails = λ yes' differ. differ (eqb-true a b yes') }

-- a test itself, and its opposite
pub denied_false : (b : Bool) → Denies b (b ≡ false)
denied_false b = record { holds = λ no. no; fails = λ yes' no. cc }

pub denied_true : (b : Bool) → Denies (not b) (b ≡ true)
denied_true true = record { holds = λ no. refl; fails = λ yes' is. cc }
denied_true false = record { holds = λ no. cc; fails = λ yes' is. cc }

-- nothing is asked
pub denied_never : Denies false ⊤
denied_never = record { holds = λ no. tt; fails = λ yes' all. cc }

module _ {P Q : Type 0} where
  -- the sentence in other words
  pub denied_like : (b : Bool) → Denies b P → (P → Q) → (Q → P) → Denies b Q
  denied_like b d there back = record { holds = λ no. there (d.holds no); fails = λ yes' q. d.fails yes' (back q) }

  -- both of two
  pub denied_both : (a b : Bool) → Denies a P → Denies b Q → Denies (a || b) (P × Q)
  denied_both true b d k = record { holds = λ no. cc; fails = λ yes' both. d.fails refl both.0 }
  denied_both false b d k = record { holds = λ no. (d.holds refl, k.holds no); fails = λ yes' both. k.fails yes' both.1 }

module _ {P : Type 0} where
  -- a sentence that holds where another test is passed
  pub denied_where : (g b : Bool) → Denies b P → Denies (g && b) (g ≡ true → P)
  denied_where true b d = record { holds = λ no on. d.holds no; fails = λ yes' all. d.fails yes' (all refl) }
  denied_where false b d = record { holds = λ no on. cc; fails = λ yes' all. cc }

  -- or where a number is below another
  pub denied_below : (a b : ℕ) (t : Bool) → Denies t P → Denies (nat_lt a b && t) (a < b → P)
  denied_below a b t d =
      denied_like (nat_lt a b && t) (denied_where (nat_lt a b) t d) (λ p less. p (lt-ltb a b less)) (λ p on. p (ltb-true a b on))

-- a sentence on a HIDE, if there is one
pub denied_hide : (hide : Option ℕ) (test : ℕ → Bool) (P : ℕ → Type 0) → ((n : ℕ) → Denies (test n) (P n))
    → Denies (hide_is hide test) (IfSome hide P)
denied_hide None test P each = record { holds = λ no. tt; fails = λ yes' all. cc }
denied_hide (Some hide) test P each = each hide

-- a sentence on each of some numbers
pub denied_each : (test : ℕ → Bool) (P : ℕ → Type 0) → ((n : ℕ) → Denies (test n) (P n)) → (ns : List ℕ)
    → Denies (list_any test ns) (AllByRecursion P ns)
denied_each test P each [] = record { holds = λ no. tt; fails = λ yes' all. cc }
denied_each test P each (n ∷ ns) = denied_both (test n) (list_any test ns) (each n) (denied_each test P each ns)
