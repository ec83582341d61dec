-- Believed: the program's answer stands on these definitions.
-- The first of what is tried in an order.
use Rattle.std.specs.Prelude.{ℕ, ◌≤◌}

-- this holds, and nothing does that is tried sooner
pub record IsFirstTried {A : Type 0} (Holds : A → Type 0) (place : A → ℕ) (it : A) : Type 0 where
  pub holds : Holds it
  pub first : (other : A) → Holds other → place it ≤ place other
