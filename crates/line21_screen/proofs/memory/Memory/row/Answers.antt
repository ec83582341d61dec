use Rattle.std.proofs.Common.{◌≡◌, length, arith, rules}
use Rattle.line21_screen.proofs.MemoryLemmas.{row_is}
use Rattle.line21_screen.proofs.memory.Memory.row.Goals as goal

pub returns-clause-cells : goal.returns-clause-cells
returns-clause-cells c =
    let long : length c.args.self.now.cells.items ≡ 480 = search rules in
    rw c.deref.ensures.value
    (row_is c.args.self.now.cells.items c.args.row _ _ long c.requires.from c.requires.to (omega arith) (omega arith))
