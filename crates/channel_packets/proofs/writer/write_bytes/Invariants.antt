use Rattle.std.proofs.Common.{◌≡◌, ◌++◌, map, take}
use Rattle.channel_packets.proofs.WrittenLemmas.{pair_written}
use Rattle.channel_packets.proofs.writer.write_bytes.Given as goal

-- the pairs so far were written
abbrev pub invariant-loop-first : goal.invariant-loop-first
invariant-loop-first l = l.out.items ≡ l.fn.out.items ++ map pair_written (take l.first-index l.pairs)
