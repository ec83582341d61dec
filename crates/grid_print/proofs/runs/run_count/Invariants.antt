use Rattle.std.proofs.Common.{◌≡◌, ◌≤◌, ◌-◌, ◌*◌, length}
use Rattle.std.specs.List.{flat_map, range_with_len}
use Rattle.line21_screen.specs.Objects.{grid_in}
use Rattle.grid_print.specs.Runs.{runs_in}
use Rattle.grid_print.proofs.runs.run_count.Given as goal

-- the runs of the rows so far are counted
abbrev pub invariant-loop-row : goal.invariant-loop-row
invariant-loop-row l = record {
  counted : l.count ≡ length (flat_map (runs_in (grid_in l.memory)) (range_with_len 1 (l.row - 1)));
  most : l.count ≤ l.row * 64;
}
