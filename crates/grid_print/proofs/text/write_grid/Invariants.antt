use Rattle.std.proofs.Common.{◌-◌}
use Rattle.std.specs.List.{flat_map, range_with_len}
use Rattle.line21_screen.specs.Objects.{grid_in}
use Rattle.text_output.specs.Pages.{Writes, page}
use Rattle.grid_print.specs.GridTexts.{run_line}
use Rattle.grid_print.specs.Runs.{runs_in}
use Rattle.grid_print.proofs.text.write_grid.Given as goal

-- the lines of the rows so far are written
abbrev pub invariant-loop-row : goal.invariant-loop-row
invariant-loop-row g l =
    Writes (page l.initial.text (g.O.Sink.written l.initial.out) (g.O.Sink.faults l.initial.out)) (page l.text (g.O.Sink.written l.out) (g.O.Sink.faults l.out))
    (flat_map (λ row. flat_map run_line (runs_in (grid_in l.memory) row)) (range_with_len 1 (l.row - 1)))
