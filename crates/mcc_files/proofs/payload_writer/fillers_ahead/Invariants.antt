use Rattle.std.proofs.Common.{◌≡◌, ◌++◌}
use Rattle.mcc_files.specs.Letters.{fillers}
use Rattle.mcc_files.proofs.payload_writer.fillers_ahead.Given as goal

abbrev pub invariant-loop-count : goal.invariant-loop-count
invariant-loop-count l = l.fn.bytes ≡ fillers l.count ++ l.rest
