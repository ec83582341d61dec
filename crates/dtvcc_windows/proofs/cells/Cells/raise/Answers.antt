use Rattle.std.proofs.Common.{◌≡◌, length, rules}
use Rattle.std.proofs.lemmas.List.{take_at}
use Rattle.dtvcc_windows.proofs.CellLemmas.{raised_cells}
use Rattle.dtvcc_windows.proofs.cells.Cells.raise.Goals as goal

pub returns-clause-cells : goal.returns-clause-cells
returns-clause-cells c =
    let long : length c.raise_places.new.places ≡ c.args.self.now.places.len = search rules in
    rw (take_at c.raise_places.new.places _ _ long)
    (raised_cells c.args.self.now.places.items c.raise_places.new.places (rw c.deref_mut.ensures.value at c.raise_places.ensures))
