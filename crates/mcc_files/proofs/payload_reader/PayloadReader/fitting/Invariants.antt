use Rattle.mcc_files.proofs.FittingLemmas.{FitSoFar}
use Rattle.mcc_files.proofs.payload_reader.PayloadReader.fitting.Given as goal

abbrev pub invariant-loop-byte : goal.invariant-loop-byte
invariant-loop-byte l = FitSoFar l.fn.self.bytes.items l.brought l.byte-index l.counted l.fit.items
