use Rattle.std.proofs.Common.{◌≡◌, ◌≤◌, ◌*◌, length}
use Rattle.std.specs.List.{flat_map, range_with_len}
use Rattle.dtvcc_windows.specs.Objects.{state_of}
use Rattle.dtvcc_windows.specs.Showing.{as_shown}
use Rattle.grid_print.specs.WindowRuns.{runs_in}
use Rattle.grid_print.proofs.window_runs.run_count.Given as goal

-- the runs of the rows so far are counted
abbrev pub invariant-loop-row : goal.invariant-loop-row
invariant-loop-row l = record {
  counted : l.count ≡ length (flat_map (runs_in (as_shown (state_of l.window))) (range_with_len 0 l.row));
  most : l.count ≤ l.row * 64;
}
