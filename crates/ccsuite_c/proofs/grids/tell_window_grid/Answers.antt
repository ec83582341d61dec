use Rattle.std.proofs.Common.{arith}
use Rattle.dtvcc_windows.specs.Objects.{state_of}
use Rattle.ccsuite_c.specs.Grids.{window_grid_cell}
use Rattle.ccsuite_c.proofs.GridLemmas.{holds_next}
use Rattle.ccsuite_c.proofs.grids.tell_window_grid.Goals as goal

pub loop-place-preserved : goal.loop-place-preserved
loop-place-preserved c =
    holds_next c.loop-place.place (window_grid_cell (state_of c.args.window.now)) c.args.cells.now c.loop-place.cells c.window_grid_cell.result
    c.loop-place.invariant (omega arith) (omega arith) c.window_grid_cell.ensures
