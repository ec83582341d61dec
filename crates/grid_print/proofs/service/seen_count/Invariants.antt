use Rattle.std.proofs.Common.{◌≡◌, ◌≤◌, length}
use Rattle.std.specs.Prelude.{ℕ, Option}
use Rattle.dtvcc_windows.specs.Showing.{ShownWindow}
use Rattle.grid_print.proofs.ServiceLemmas.{shown_below}
use Rattle.grid_print.proofs.service.seen_count.Given as goal

-- those below the id seen counted
abbrev pub invariant-loop-id : goal.invariant-loop-id
invariant-loop-id g l = record {
  counted : (seen : ℕ → ℕ → Option ShownWindow) → g.G.Grids.shows l.r seen → l.count ≡ length (shown_below (seen l.service) l.id);
  most : l.count ≤ l.id;
}
