use Rattle.std.specs.Prelude.{ℕ, Option}
use Rattle.dtvcc_windows.specs.Showing.{ShownWindow}
use Rattle.grid_print.specs.Kept.{KeepsServices}
use Rattle.grid_print.proofs.shown.keep_services.Given as goal

-- the services so far seen kept
abbrev pub invariant-loop-place : goal.invariant-loop-place
invariant-loop-place g l = (seen : ℕ → ℕ → Option ShownWindow) → g.G.Grids.shows l.r seen
    → KeepsServices seen l.place l.initial.services l.services l.changed
