-- Believed: the program's answer stands on these definitions.
-- The HIDE of a cue: the frame from which it isn't seen any more, if one is authored.
use Rattle.std.specs.Prelude.{ℕ, Bool, false, Option, Some, None}

-- a test of a HIDE: an empty one doesn't pass
abbrev pub hide_is : Option ℕ → (ℕ → Bool) → Bool
hide_is None test = false
hide_is (Some hide) test = test hide
