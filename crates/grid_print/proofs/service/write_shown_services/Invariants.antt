use Rattle.std.proofs.Common.{◌+◌}
use Rattle.std.specs.List.{flat_map, range_with_len}
use Rattle.std.specs.Prelude.{ℕ, Option}
use Rattle.dtvcc_windows.specs.Showing.{ShownWindow}
use Rattle.text_output.specs.Pages.{Writes, WritesSome, page}
use Rattle.grid_print.proofs.ScreenLemmas.{shown_service}
use Rattle.grid_print.proofs.service.write_shown_services.Given as goal

-- the texts of the services at the places so far seen written
abbrev pub invariant-loop-place : goal.invariant-loop-place
invariant-loop-place g l = record {
  some : WritesSome (page l.initial.text (g.O.Sink.written l.initial.out) (g.O.Sink.faults l.initial.out)) (page l.text (g.O.Sink.written l.out) (g.O.Sink.faults l.out));
  text : (seen : ℕ → ℕ → Option ShownWindow) → g.G.Grids.shows l.r seen
      → Writes (page l.initial.text (g.O.Sink.written l.initial.out) (g.O.Sink.faults l.initial.out)) (page l.text (g.O.Sink.written l.out) (g.O.Sink.faults l.out))
      (flat_map (λ place. shown_service seen (place + 1)) (range_with_len 0 l.place));
}
