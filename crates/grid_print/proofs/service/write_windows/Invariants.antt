use Rattle.std.specs.Prelude.{ℕ, Option}
use Rattle.dtvcc_windows.specs.Showing.{ShownWindow}
use Rattle.text_output.specs.Pages.{Writes, WritesSome, page}
use Rattle.grid_print.proofs.ServiceLemmas.{texts_below}
use Rattle.grid_print.proofs.service.write_windows.Given as goal

-- the texts of those below the id seen written
abbrev pub invariant-loop-id : goal.invariant-loop-id
invariant-loop-id g l = record {
  some : WritesSome (page l.initial.text (g.O.Sink.written l.initial.out) (g.O.Sink.faults l.initial.out)) (page l.text (g.O.Sink.written l.out) (g.O.Sink.faults l.out));
  text : (seen : ℕ → ℕ → Option ShownWindow) → g.G.Grids.shows l.r seen
      → Writes (page l.initial.text (g.O.Sink.written l.initial.out) (g.O.Sink.faults l.initial.out)) (page l.text (g.O.Sink.written l.out) (g.O.Sink.faults l.out)) (texts_below (seen l.service) l.id);
}
