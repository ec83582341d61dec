use Rattle.std.proofs.Common.{◌≡◌, length, rules}
use Rattle.line21_screen.proofs.GridLemmas.{put_grid}
use Rattle.line21_screen.proofs.memory.Memory.put.Goals as goal

pub returns : goal.returns
returns c =
    let long : length c.args.self.now.cells.items ≡ 480 = search rules in
    rw c.place-at.ensures.place
    (put_grid c.args.self.now.cells.items c.args.row c.args.col c.args.cell long c.requires.row_from c.requires.row_to c.requires.col)
