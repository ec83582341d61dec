use Rattle.std.proofs.Common.{arith}
use Rattle.cc_base.proofs.Bytes.{copied}
use Rattle.cc_base.proofs.copies.copy_front.Goals as goal

pub returns-clause-copied : goal.returns-clause-copied
returns-clause-copied c =
    copied c.args.at c.min-count.result c.args.bytes.now.items c.copy_from_slice.new.self _
    (rw c.deref.ensures.value at c.copy_from_slice.ensures.after) (omega arith)
