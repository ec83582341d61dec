use Rattle.std.proofs.Common.{◌≡◌, ◌≤◌, ℕ, length}
use Rattle.std.specs.List.{filter_map, range_with_len}
use Rattle.grid_print.specs.CellRuns.{run_at}
use Rattle.grid_print.proofs.RunLemmas.{left_of}
use Rattle.grid_print.proofs.cell_runs.runs_of_row.Given as goal

-- the runs that begin so far are counted
abbrev pub invariant-loop-cell : goal.invariant-loop-cell
invariant-loop-cell g l = record {
  left : l.left ≡ left_of l.cells l.cell-index;
  counted : (row : ℕ) → l.count ≡ length (filter_map (run_at g.C.WrittenCell.writing row l.cells) (range_with_len 0 l.cell-index));
  most : l.count ≤ l.cell-index;
}
