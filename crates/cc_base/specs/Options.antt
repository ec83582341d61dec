-- Between crates: the program's answer stands on none of these definitions.
-- What holds of values that may not be there.
use Rattle.std.specs.Prelude.{Bool, false, Option, Some, None}

-- a value that is there passes a test
abbrev pub passes : {A : Type 0} → (A → Bool) → Option A → Bool
passes test None = false
passes test (Some value) = test value
