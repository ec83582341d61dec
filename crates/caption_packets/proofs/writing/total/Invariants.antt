use Rattle.std.proofs.Common.{◌≡◌, ◌%◌, sum, take}
use Rattle.caption_packets.proofs.writing.total.Given as goal

-- the sum of those before
abbrev pub invariant-loop-byte : goal.invariant-loop-byte
invariant-loop-byte l = l.total ≡ sum (take l.byte-index l.bytes) % 256
