use Rattle.std.proofs.Common.{◌≡◌}
use Rattle.std.specs.List.{filter_map, flat_map, range_with_len}
use Rattle.text_output.specs.Pages.{Writes, page}
use Rattle.grid_print.specs.GridTexts.{run_line}
use Rattle.grid_print.specs.CellRuns.{run_at}
use Rattle.grid_print.specs.Writing.{in_styles}
use Rattle.grid_print.proofs.RunLemmas.{left_of}
use Rattle.grid_print.proofs.text.write_row.Given as goal

-- the lines of the runs that begin so far are written
abbrev pub invariant-loop-col : goal.invariant-loop-col
invariant-loop-col g l = record {
  left : l.left ≡ left_of l.cells l.col;
  written : Writes (page l.initial.text (g.O.Sink.written l.initial.out) (g.O.Sink.faults l.initial.out)) (page l.text (g.O.Sink.written l.out) (g.O.Sink.faults l.out))
      (flat_map run_line (filter_map (run_at in_styles l.row l.cells) (range_with_len 0 l.col)));
}
