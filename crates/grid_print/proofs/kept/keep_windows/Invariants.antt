use Rattle.std.specs.Prelude.{ℕ, Option}
use Rattle.dtvcc_windows.specs.Showing.{ShownWindow}
use Rattle.grid_print.specs.Keeping.{KeepsWindows, windows_seen}
use Rattle.grid_print.proofs.kept.keep_windows.Given as goal

-- the windows so far seen kept
abbrev pub invariant-loop-id : goal.invariant-loop-id
invariant-loop-id g l = (seen : ℕ → ℕ → Option ShownWindow) → g.G.Grids.shows l.r seen
    → KeepsWindows (seen l.service) l.id (windows_seen l.initial.windows) (windows_seen l.windows) l.changed
