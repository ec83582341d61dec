use Rattle.std.proofs.Common.{length}
use Rattle.mcc_files.specs.Ahead.{AreItemsAhead}
use Rattle.mcc_files.proofs.ahead.add_items.Given as goal

abbrev pub invariant-loop-behind : goal.invariant-loop-behind
invariant-loop-behind l = AreItemsAhead l.text l.rest l.fn.bytes.items l.bytes.items

abbrev pub decreases-loop-behind : goal.decreases-loop-behind
decreases-loop-behind l = length l.rest
