use Rattle.std.proofs.Common.{◌≡◌, length, rules}
use Rattle.dtvcc_windows.proofs.CellLemmas.{put_cells}
use Rattle.dtvcc_windows.proofs.cells.Cells.put.Goals as goal

pub returns-clause-cells : goal.returns-clause-cells
returns-clause-cells c =
    let long : length c.args.self.now.places.items ≡ 1024 = search rules in
    rw c.place-at.ensures.place
    (put_cells c.args.self.now.places.items c.args.row c.args.col c.args.cell long c.requires.row c.requires.col)
