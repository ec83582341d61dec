use Rattle.std.proofs.Common.{◌≡◌}
use Rattle.line21_screen.specs.Grid.{without_cells}
use Rattle.line21_screen.specs.Objects.{grid_of}
use Rattle.line21_screen.proofs.memory.Memory.clear_from.Given as goal

-- the cells so far are removed
abbrev pub invariant-loop-c : goal.invariant-loop-c
invariant-loop-c l = grid_of l.self.cells.items ≡ without_cells (grid_of l.initial.self.cells.items) l.row l.col l.c
