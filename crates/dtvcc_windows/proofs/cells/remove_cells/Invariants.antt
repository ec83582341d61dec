use Rattle.std.proofs.Common.{◌≡◌, ◌≤◌, max, None}
use Rattle.std.specs.List.{AllWithin, SameBelow, SameFrom}
use Rattle.dtvcc_windows.proofs.cells.remove_cells.Given as goal

-- the cells so far are removed
abbrev pub invariant-loop-place : goal.invariant-loop-place
invariant-loop-place l = record {
  within : l.place ≤ max l.from l.to;
  removed : AllWithin (λ cell. cell ≡ None) l.places l.from l.place;
  above : SameBelow l.initial.places l.places l.from;
  below : SameFrom l.initial.places l.places l.place;
}
