use Rattle.std.proofs.Common.{◌≡◌, drop}
use Rattle.cue_lists.specs.AuthoredServiceGrid.{written_cells}
use Rattle.cc_verifier.proofs.window_cells.written_cell.Given as goal

abbrev pub invariant-loop-run : goal.invariant-loop-run
invariant-loop-run l = written_cells l.style l.runs l.row l.column ≡ written_cells l.style (drop l.run-index l.runs) l.row l.column
