use Rattle.std.proofs.Common.{◌<◌, length, rules}
use Rattle.line21_screen.proofs.GridLemmas.{read_at}
use Rattle.line21_screen.proofs.memory.Memory.cell.Goals as goal

pub returns : goal.returns
returns c =
    let within : c.place.result < length c.args.self.now.cells.items = search rules in
    read_at c.args.self.now.cells.items c.args.row c.args.col c.place.result c.index.result.now
    c.requires.row_from c.requires.row_to c.requires.col c.place.ensures.place within c.index.ensures
