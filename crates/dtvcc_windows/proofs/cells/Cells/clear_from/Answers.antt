use Rattle.std.proofs.Common.{◌≡◌, length, rules, arith}
use Rattle.std.proofs.lemmas.List.{take_at}
use Rattle.dtvcc_windows.proofs.CellLemmas.{removed_cells}
use Rattle.dtvcc_windows.proofs.cells.Cells.clear_from.Goals as goal

pub returns-clause-cells : goal.returns-clause-cells
returns-clause-cells c =
    let long : length c.remove_cells.new.places ≡ c.args.self.now.places.len = search rules in
    rw (take_at c.remove_cells.new.places _ _ long, ← c.deref_mut.ensures.value)
    (removed_cells c.deref_mut.result.now c.remove_cells.new.places c.args.row c.args.col c.requires.row
    (λ k d from to. c.remove_cells.ensures.removed k d (omega arith) (omega arith))
    (λ k d before. c.remove_cells.ensures.above k d (omega arith))
    (λ k d past. c.remove_cells.ensures.below k d (omega arith)))
