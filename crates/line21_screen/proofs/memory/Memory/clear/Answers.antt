use Rattle.std.proofs.Common.{◌≡◌, length, None, arith, rules}
use Rattle.std.proofs.lemmas.List.{take_at}
use Rattle.std.specs.List.{AllWithin}
use Rattle.line21_screen.proofs.GridLemmas.{none_left, none_grid}
use Rattle.line21_screen.proofs.memory.Memory.clear.Goals as goal

pub invariant_of-self : goal.invariant_of-self
invariant_of-self c =
    let long : length c.remove_cells.new.cells ≡ c.args.self.now.cells.len = search rules in
    let none : AllWithin (λ cell. cell ≡ None) c.remove_cells.new.cells 0 480 =
    none_left c.deref_mut.result.now c.remove_cells.new.cells c.args.self.now.first c.args.self.now.behind
    (rw c.deref_mut.ensures.value c.args.self.now.none_above) (rw c.deref_mut.ensures.value c.args.self.now.none_below)
    c.remove_cells.ensures.removed c.remove_cells.ensures.above c.remove_cells.ensures.below in
    record {
      length = omega arith;
      behind_to = omega arith;
      none_above = rw (take_at c.remove_cells.new.cells _ _ long) none;
      none_below = rw (take_at c.remove_cells.new.cells _ _ long) none;
    }

pub returns : goal.returns
returns c =
    let long : length c.remove_cells.new.cells ≡ c.args.self.now.cells.len = search rules in
    rw (take_at c.remove_cells.new.cells _ _ long)
    (none_grid c.remove_cells.new.cells
    (none_left c.deref_mut.result.now c.remove_cells.new.cells c.args.self.now.first c.args.self.now.behind
    (rw c.deref_mut.ensures.value c.args.self.now.none_above) (rw c.deref_mut.ensures.value c.args.self.now.none_below)
    c.remove_cells.ensures.removed c.remove_cells.ensures.above c.remove_cells.ensures.below))
