-- Between crates: the program's answer stands on none of these definitions.
-- Going through pairs frame by frame.
use Rattle.std.specs.Prelude.{◌≡◌, ℕ, ◌+◌, ◌<◌}
use Rattle.line21_codes.specs.declared.pairs.Pair.{Pair}
use Rattle.scc_files.specs.SccFiles.{AreRising}
use Rattle.scc_commands.specs.Import.{PlacedPairs, pair_at}
use Rattle.scc_commands.specs.declared.cursor.Cursor.{Cursor}

-- the pairs of the frames that a cursor has not passed
abbrev pub pairs_left : Cursor → PlacedPairs
pairs_left cursor = cursor.left.now

-- a frame is passed: its pair is given, and the pairs of later frames are left
pub record Passes (frame : ℕ) (old new : PlacedPairs) (pair : Pair) : Type 0 where
  pub pair_is : pair ≡ pair_at old frame
  pub rising : AreRising (frame + 1) new
  pub later : (other : ℕ) → frame < other → pair_at new other ≡ pair_at old other
