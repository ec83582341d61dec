use Rattle.std.proofs.Common.{take}
use Rattle.mcc_files.proofs.ItemLemmas.{AreTaken}
use Rattle.mcc_files.proofs.payload_reader.PayloadReader.take_item.Given as goal

abbrev pub invariant-loop-byte : goal.invariant-loop-byte
invariant-loop-byte l = AreTaken l.fn.self.bytes.items (take l.byte-index l.brought) l.counted
