use Rattle.std.proofs.Common.{arith, ◌≡◌, length}
use Rattle.cc_receiver.proofs.CountingLemmas.{cell_put, none_put}
use Rattle.cc_receiver.proofs.triplets.Triplets.put.Goals as goal

pub returns-then-self-lt-MOST-clause-items : goal.returns-then-self-lt-MOST-clause-items
returns-then-self-lt-MOST-clause-items c =
    let own = c.args.self.now in
    let long : length own.cells ≡ 81 = omega arith in
    cell_put own.cells own.len c.args.triplet long c.if-self-lt-MOST.true

pub returns-else-self-lt-MOST-clause-items : goal.returns-else-self-lt-MOST-clause-items
returns-else-self-lt-MOST-clause-items c =
    let own = c.args.self.now in
    let long : length own.cells ≡ 81 = omega arith in
    none_put own.cells own.len c.args.triplet long c.if-self-lt-MOST.false
