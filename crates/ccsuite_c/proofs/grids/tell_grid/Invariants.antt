use Rattle.line21_screen.specs.Objects.{grid_in}
use Rattle.ccsuite_c.specs.Grids.{HoldsCells, grid_cell}
use Rattle.ccsuite_c.proofs.grids.tell_grid.Given as goal

-- the cells so far were told
abbrev pub invariant-loop-place : goal.invariant-loop-place
invariant-loop-place l = HoldsCells l.place (grid_cell (grid_in l.memory)) l.initial.cells l.cells
