use Rattle.std.proofs.Common.{◌<◌, length, rules}
use Rattle.dtvcc_windows.proofs.CellLemmas.{read_at}
use Rattle.dtvcc_windows.proofs.cells.Cells.cell.Goals as goal

pub returns : goal.returns
returns c =
    let within : c.place.result < length c.args.self.now.places.items = search rules in
    read_at c.args.self.now.places.items c.args.row c.args.col c.place.result c.index.result.now
    c.requires.row c.requires.col c.place.ensures.place within c.index.ensures
