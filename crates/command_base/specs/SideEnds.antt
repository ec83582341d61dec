-- Believed: the program's answer stands on these definitions.
-- What clauses see of a side file at a moment.
use Rattle.std.specs.Prelude.{ℕ, List, Option}

-- the bytes that it has left, where they are known, and the count of its faults
pub record SideEnds : Type 0 where
  pub left : Option (List ℕ)
  pub faults : ℕ

abbrev pub side_ends : Option (List ℕ) → ℕ → SideEnds
side_ends left faults = record { left = left; faults = faults }
