use Rattle.std.proofs.Common.{◌≡◌, min, length, arith, rules}
use Rattle.std.proofs.lemmas.List.{take_at}
use Rattle.line21_screen.proofs.GridLemmas.{HasMoved, has_moved, moved_grid}
use Rattle.line21_screen.proofs.memory.Memory.move_rows.Goals as goal

pub invariant_of-self : goal.invariant_of-self
invariant_of-self c =
    let long : length c.remove_cells-2.new.cells ≡ c.args.self.now.cells.len = search rules in
    let has : HasMoved c.as_mut_slice-cells.result.now c.remove_cells-2.new.cells c.min-count.result c.args.old c.args.new =
    has_moved c.as_mut_slice-cells.result.now c.copy_rows.new.cells c.remove_cells.new.cells c.remove_cells-2.new.cells
    c.min-count.result c.args.old c.args.new c.args.self.now.first c.args.self.now.behind
    (omega arith) (omega arith) (omega arith)
    (rw c.as_mut_slice-cells.ensures.value c.args.self.now.none_above) (rw c.as_mut_slice-cells.ensures.value c.args.self.now.none_below)
    c.copy_rows.ensures.copied c.copy_rows.ensures.above c.copy_rows.ensures.below
    (λ k d from to. c.remove_cells.ensures.removed k d from (omega arith)) c.remove_cells.ensures.above (λ k d from. c.remove_cells.ensures.below k d (omega arith))
    (λ k d from to. c.remove_cells-2.ensures.removed k d (omega arith) to) (λ k d to. c.remove_cells-2.ensures.above k d (omega arith)) c.remove_cells-2.ensures.below in
    record {
      length = omega arith;
      behind_to = omega arith;
      none_above = rw (take_at c.remove_cells-2.new.cells _ _ long) (λ k d from to. has.none_above k d from (omega arith));
      none_below = rw (take_at c.remove_cells-2.new.cells _ _ long) (λ k d from to. has.none_below k d (omega arith) to);
    }

pub returns : goal.returns
returns c =
    let long : length c.remove_cells-2.new.cells ≡ c.args.self.now.cells.len = search rules in
    let has : HasMoved c.as_mut_slice-cells.result.now c.remove_cells-2.new.cells c.min-count.result c.args.old c.args.new =
    has_moved c.as_mut_slice-cells.result.now c.copy_rows.new.cells c.remove_cells.new.cells c.remove_cells-2.new.cells
    c.min-count.result c.args.old c.args.new c.args.self.now.first c.args.self.now.behind
    (omega arith) (omega arith) (omega arith)
    (rw c.as_mut_slice-cells.ensures.value c.args.self.now.none_above) (rw c.as_mut_slice-cells.ensures.value c.args.self.now.none_below)
    c.copy_rows.ensures.copied c.copy_rows.ensures.above c.copy_rows.ensures.below
    (λ k d from to. c.remove_cells.ensures.removed k d from (omega arith)) c.remove_cells.ensures.above (λ k d from. c.remove_cells.ensures.below k d (omega arith))
    (λ k d from to. c.remove_cells-2.ensures.removed k d (omega arith) to) (λ k d to. c.remove_cells-2.ensures.above k d (omega arith)) c.remove_cells-2.ensures.below in
    let count : c.min-count.result ≡ min (min c.args.rows c.args.old) c.args.new = omega arith in
    rw (take_at c.remove_cells-2.new.cells _ _ long, ← c.as_mut_slice-cells.ensures.value)
    (moved_grid c.as_mut_slice-cells.result.now c.remove_cells-2.new.cells c.args.rows c.args.old c.args.new c.requires.old c.requires.new (rw count at has))
