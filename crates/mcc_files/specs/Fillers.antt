-- Between crates: the program's answer stands on none of these definitions.
-- How many triplets that don't count stand at the front of bytes.
use Rattle.std.specs.Prelude.{◌≡◌, ℕ, ◌≤◌, List, ◌∷◌, ◌++◌}
use Rattle.mcc_files.specs.Letters.{fillers}

-- this many, at most 9: with fewer than 9 none follows them
pub record AreAhead (count : ℕ) (bytes : List ℕ) : Type 0 where
  pub behind : List ℕ
  pub spelled : bytes ≡ fillers count ++ behind
  pub few : count ≤ 9
  pub most : (rest : List ℕ) → behind ≡ 0xFA ∷ 0x00 ∷ 0x00 ∷ rest → count ≡ 9
