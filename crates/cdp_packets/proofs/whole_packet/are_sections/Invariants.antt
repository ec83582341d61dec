use Rattle.std.proofs.Common.{length}
use Rattle.cdp_packets.proofs.WholeLemmas.{SameList}
use Rattle.cdp_packets.proofs.whole_packet.are_sections.Given as goal

abbrev pub invariant-loop-behind : goal.invariant-loop-behind
invariant-loop-behind l = SameList l.bytes l.rest

abbrev pub decreases-loop-behind : goal.decreases-loop-behind
decreases-loop-behind l = length l.rest
