use Rattle.dtvcc_windows.specs.Objects.{state_of}
use Rattle.ccsuite_c.specs.Grids.{HoldsCells, window_grid_cell}
use Rattle.ccsuite_c.proofs.grids.tell_window_grid.Given as goal

-- the cells so far were told
abbrev pub invariant-loop-place : goal.invariant-loop-place
invariant-loop-place l = HoldsCells l.place (window_grid_cell (state_of l.window)) l.initial.cells l.cells
