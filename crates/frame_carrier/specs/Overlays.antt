-- Between crates: the program's answer stands on none of these definitions.
-- Frames with pairs that are laid over them.
use Rattle.std.specs.Prelude.{ℕ}
use Rattle.frame_scheduler.specs.Columns.{Columns}

-- the frames give some columns, of which the overlay makes these
pub record GivesOverlaid {F L : Type 0} (Gives : Columns → ℕ → F → Type 0) (Lays : Columns → Columns → ℕ → L → Type 0) (columns : Columns) (frame : ℕ) (frames : F) (overlay : L) : Type 0 where
  pub firsts : Columns
  pub gives : Gives firsts frame frames
  pub makes : Lays firsts columns frame overlay
