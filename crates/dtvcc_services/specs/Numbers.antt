-- Believed: the library's answers stand on these definitions.
-- The numbers of the services of a caption channel (CTA-708-E, caption channel services).
use Rattle.std.specs.Prelude.{◌≡◌, ℕ, ◌<◌, ◌≤◌, Bool, true, false, Option, Some, None}

-- a service has a number from 1 to 63
pub record IsService (service : ℕ) : Type 0 where
  pub from : 1 ≤ service
  pub to : service ≤ 63

-- of this service a test holds, and of none below it
pub record IsLowestService (test : ℕ → Bool) (lowest : ℕ) : Type 0 where
  pub is : IsService lowest
  pub holds : test lowest ≡ true
  pub below : (service : ℕ) → 1 ≤ service → service < lowest → test service ≡ false

-- the lowest service of which a test holds, if it holds of any
abbrev pub IsLowest : (ℕ → Bool) → Option ℕ → Type 0
IsLowest test None = (service : ℕ) → IsService service → test service ≡ false
IsLowest test (Some lowest) = IsLowestService test lowest
