-- Between crates: the program's answer stands on none of these definitions.
-- Units that are kept as the bytes of all, one unit after the other, and the length of each.
use Rattle.std.specs.Prelude.{◌≡◌, ℕ, ◌≤◌, All, List, [], ◌∷◌, drop, length, map, take}
use Rattle.std.specs.List.{concat}

-- the units of these lengths
abbrev pub divided : List ℕ → List ℕ → List (List ℕ)
divided [] bytes = []
divided (size ∷ sizes) bytes = take size bytes ∷ divided sizes (drop size bytes)

-- the units have these lengths, at most seven bytes each, and no byte is left after them
pub record ArePacked (sizes bytes : List ℕ) : Type 0 where
  pub lengths : map length (divided sizes bytes) ≡ sizes
  pub whole : concat (divided sizes bytes) ≡ bytes
  pub small : All (λ (size : ℕ). size ≤ 7) sizes

-- the bytes of the units before one
abbrev pub bytes_before : ℕ → List (List ℕ) → ℕ
bytes_before index units = length (concat (take index units))
