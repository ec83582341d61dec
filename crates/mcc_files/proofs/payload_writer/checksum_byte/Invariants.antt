use Rattle.std.proofs.Common.{◌≡◌, ◌+◌, ◌%◌, length, take}
use Rattle.mcc_files.proofs.PacketLemmas.{sum_onto}
use Rattle.mcc_files.proofs.payload_writer.checksum_byte.Given as goal

abbrev pub invariant-loop-byte : goal.invariant-loop-byte
invariant-loop-byte l = l.sum ≡ sum_onto (l.did + l.sdid + length l.user) (take l.byte-index l.user) % 256
