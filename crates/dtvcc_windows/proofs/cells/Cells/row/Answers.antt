use Rattle.std.proofs.Common.{◌≡◌, length, arith, rules}
use Rattle.dtvcc_windows.proofs.PartLemmas.{row_is}
use Rattle.dtvcc_windows.proofs.cells.Cells.row.Goals as goal

pub returns : goal.returns
returns c =
    let long : length c.args.self.now.places.items ≡ 1024 = search rules in
    rw c.deref.ensures.value
    (row_is c.args.self.now.places.items c.args.row c.args.cols _ _ long c.requires.row c.requires.cols (omega arith) (omega arith))
