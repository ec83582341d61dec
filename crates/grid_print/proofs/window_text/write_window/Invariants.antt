use Rattle.std.specs.List.{flat_map, range_with_len}
use Rattle.dtvcc_windows.specs.Objects.{state_of}
use Rattle.dtvcc_windows.specs.Showing.{as_shown}
use Rattle.text_output.specs.Pages.{Writes, page}
use Rattle.grid_print.specs.WindowRuns.{runs_in}
use Rattle.grid_print.specs.WindowTexts.{window_run_line}
use Rattle.grid_print.proofs.window_text.write_window.Given as goal

-- the lines of the rows so far are written
abbrev pub invariant-loop-row : goal.invariant-loop-row
invariant-loop-row g l =
    Writes (page l.initial.text (g.O.Sink.written l.initial.out) (g.O.Sink.faults l.initial.out)) (page l.text (g.O.Sink.written l.out) (g.O.Sink.faults l.out))
    (flat_map (λ row. flat_map window_run_line (runs_in (as_shown (state_of l.window)) row)) (range_with_len 0 l.row))
