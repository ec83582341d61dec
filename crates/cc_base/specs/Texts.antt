-- Believed: the program's answer stands on these definitions.
-- Texts that are made of pieces.
use Rattle.std.specs.Prelude.{ℕ, List}
use Rattle.std.specs.List.{flat_map}

-- the pieces one after another
abbrev pub text : List (List ℕ) → List ℕ
text pieces = flat_map (λ piece. piece) pieces
