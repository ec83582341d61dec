use Rattle.std.proofs.Common.{arith}
use Rattle.line21_screen.specs.Objects.{grid_in}
use Rattle.ccsuite_c.specs.Grids.{grid_cell}
use Rattle.ccsuite_c.proofs.GridLemmas.{holds_next}
use Rattle.ccsuite_c.proofs.grids.tell_grid.Goals as goal

pub loop-place-preserved : goal.loop-place-preserved
loop-place-preserved c =
    holds_next c.loop-place.place (grid_cell (grid_in c.args.memory.now)) c.args.cells.now c.loop-place.cells c.grid_cell.result
    c.loop-place.invariant (omega arith) (omega arith) c.grid_cell.ensures
