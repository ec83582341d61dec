use Rattle.std.proofs.Common.{◌≡◌, drop, length}
use Rattle.cue_types.specs.Cells.{have_shared_cell}
use Rattle.cue_lists.proofs.RuleCells.{meet_left}
use Rattle.cue_lists.proofs.rules.cells.have_shared_cell.Given as goal

-- what is left of the runs meets what was written, or itself, where the runs have a shared cell
abbrev pub invariant-loop-run : goal.invariant-loop-run
invariant-loop-run l = record {
  left : have_shared_cell l.runs ≡ meet_left l.written (drop l.run-index l.runs);
  rows : length l.written ≡ 16;
}
